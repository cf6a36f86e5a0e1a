use Rattle.std.proofs.Common.{rules, ◌≡◌, Some}
use Rattle.std.specs.List.{slice_get}
use Rattle.turn_hub.proofs.Boxes.{last_gone, read_box, read_link, nothing_there}
use Rattle.turn_hub.proofs.outboxes.take_last.Goals as goal

pub returns-in-Some-clause-apart : goal.returns-in-Some-clause-apart
returns-in-Some-clause-apart g c =
    let h = c.in-Some.ensures.place in
    let bs = c.args.boxes.now.items in
    let s : slice_get bs c.in-Some.place ≡ Some h.0 = search rules in
    let r = c.index_mut.result.now in
    (last_gone bs c.in-Some.place r c.pop.new.self c.pop.result c.args.link.now c.requires.apart (read_box bs c.in-Some.place h.0 r s c.index_mut.ensures.value) (read_link bs c.in-Some.place h.0 r c.args.link.now s c.index_mut.ensures.value h.2) c.pop.ensures).apart

pub returns-in-Some-clause-others : goal.returns-in-Some-clause-others
returns-in-Some-clause-others g c =
    let h = c.in-Some.ensures.place in
    let bs = c.args.boxes.now.items in
    let s : slice_get bs c.in-Some.place ≡ Some h.0 = search rules in
    let r = c.index_mut.result.now in
    (last_gone bs c.in-Some.place r c.pop.new.self c.pop.result c.args.link.now c.requires.apart (read_box bs c.in-Some.place h.0 r s c.index_mut.ensures.value) (read_link bs c.in-Some.place h.0 r c.args.link.now s c.index_mut.ensures.value h.2) c.pop.ensures).others

pub returns-in-Some-clause-last : goal.returns-in-Some-clause-last
returns-in-Some-clause-last g c =
    let h = c.in-Some.ensures.place in
    let bs = c.args.boxes.now.items in
    let s : slice_get bs c.in-Some.place ≡ Some h.0 = search rules in
    let r = c.index_mut.result.now in
    (last_gone bs c.in-Some.place r c.pop.new.self c.pop.result c.args.link.now c.requires.apart (read_box bs c.in-Some.place h.0 r s c.index_mut.ensures.value) (read_link bs c.in-Some.place h.0 r c.args.link.now s c.index_mut.ensures.value h.2) c.pop.ensures).last

pub returns-in_default-clause-last : goal.returns-in_default-clause-last
returns-in_default-clause-last g c = λ ps p e. nothing_there c.args.boxes.now.items c.args.link.now ps p (search rules) e
