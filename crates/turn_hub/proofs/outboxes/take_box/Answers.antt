use Rattle.std.proofs.Common.{rules, ◌≡◌, Some, false, ◌∙◌, ◌<◌, subst}
use Rattle.std.specs.List.{slice_get}
use Rattle.std.proofs.lemmas.Option.{slice_get_within}
use Rattle.turn_hub.specs.Boxes.{has_box}
use Rattle.turn_hub.proofs.Boxes.{BoxGone, box_gone, no_box, read_box, read_link}
use Rattle.turn_hub.proofs.outboxes.take_box.Goals as goal

pub returns-in_default-clause-out : goal.returns-in_default-clause-out
returns-in_default-clause-out g c =
    let s : has_box c.args.link.now c.args.boxes.now.items ≡ false = search rules in
    c.new.ensures ∙ (no_box c.args.boxes.now.items c.args.link.now c.requires.apart s).out_is

pub returns-in_default-clause-none : goal.returns-in_default-clause-none
returns-in_default-clause-none g c =
    let s : has_box c.args.link.now c.args.boxes.now.items ≡ false = search rules in
    (no_box c.args.boxes.now.items c.args.link.now c.requires.apart s).none

pub remove-packets-requires : goal.remove-packets-requires
remove-packets-requires g c =
    let h = c.in-Some.ensures.place in
    subst (λ n. c.in-Some.place < n) c.as_slice.ensures.len (slice_get_within c.as_slice.result.now c.in-Some.place h.0 h.1)

gone : (g : _) (c : goal.After-remove-packets g) → BoxGone c.args.boxes.now.items c.remove-packets.new.self.items c.remove-packets.result.packets c.args.link.now
gone g c =
    let h = c.in-Some.ensures.place in
    let bs = c.args.boxes.now.items in
    let r = c.remove-packets.result in
    let s : slice_get bs c.in-Some.place ≡ Some h.0 = search rules in
    box_gone bs c.remove-packets.new.self.items c.in-Some.place r c.args.link.now c.requires.apart (read_box bs c.in-Some.place h.0 r s c.remove-packets.ensures.value) (read_link bs c.in-Some.place h.0 r c.args.link.now s c.remove-packets.ensures.value h.2) c.remove-packets.ensures.items

pub returns-clause-apart : goal.returns-clause-apart
returns-clause-apart g c = (gone g c).apart

pub returns-clause-out : goal.returns-clause-out
returns-clause-out g c = (gone g c).out_is

pub returns-clause-none : goal.returns-clause-none
returns-clause-none g c = (gone g c).none

pub returns-clause-others : goal.returns-clause-others
returns-clause-others g c = (gone g c).others
