use Rattle.std.proofs.Common.{rules, ◌≡◌, Some, false}
use Rattle.std.specs.List.{slice_get}
use Rattle.turn_hub.specs.Boxes.{has_box}
use Rattle.turn_hub.proofs.Boxes.{put_at_place, put_at_end}
use Rattle.turn_hub.proofs.outboxes.put_on.Goals as goal

pub returns-in-Some-clause-apart : goal.returns-in-Some-clause-apart
returns-in-Some-clause-apart g c =
    let h = c.in-Some.ensures.place in
    let s : slice_get c.args.boxes.now.items c.in-Some.place ≡ Some h.0 = search rules in
    (put_at_place c.put_at.result c.args.boxes.now.items c.put_at.new.boxes.items c.in-Some.place h.0 c.args.packet c.args.link.now c.requires.apart s h.2 c.put_at.ensures.put c.put_at.ensures.none).apart

pub returns-in-Some-clause-put : goal.returns-in-Some-clause-put
returns-in-Some-clause-put g c =
    let h = c.in-Some.ensures.place in
    let s : slice_get c.args.boxes.now.items c.in-Some.place ≡ Some h.0 = search rules in
    (put_at_place c.put_at.result c.args.boxes.now.items c.put_at.new.boxes.items c.in-Some.place h.0 c.args.packet c.args.link.now c.requires.apart s h.2 c.put_at.ensures.put c.put_at.ensures.none).put

pub returns-in-None-clause-apart : goal.returns-in-None-clause-apart
returns-in-None-clause-apart g c =
    let s : has_box c.args.link.now c.args.boxes.now.items ≡ false = search rules in
    (put_at_end c.put_new.result c.args.boxes.now.items c.put_new.new.boxes.items c.args.packet c.args.link.now c.requires.apart s c.put_new.ensures.put c.put_new.ensures.none).apart

pub returns-in-None-clause-put : goal.returns-in-None-clause-put
returns-in-None-clause-put g c =
    let s : has_box c.args.link.now c.args.boxes.now.items ≡ false = search rules in
    (put_at_end c.put_new.result c.args.boxes.now.items c.put_new.new.boxes.items c.args.packet c.args.link.now c.requires.apart s c.put_new.ensures.put c.put_new.ensures.none).put
