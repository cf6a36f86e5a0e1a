use Rattle.std.proofs.Common.{rules, ◌≡◌, ◌-◌, ◌^◌, Some, false, ap, sym, ◌∙◌, min}
use Rattle.std.specs.List.{slice_get}
use Rattle.turn_hub.specs.Boxes.{has_box, waiting}
use Rattle.turn_hub.specs.History.{size_of}
use Rattle.turn_hub.proofs.Boxes.{found, nothing, read_box, read_link}
use Rattle.turn_hub.proofs.outboxes.Outboxes.size.Goals as goal

pub returns-in-Some : goal.returns-in-Some
returns-in-Some g c =
    let h = c.in-Some.ensures.place in
    let bs = c.self.inside.boxes.items in
    let s : slice_get bs c.in-Some.place ≡ Some h.0 = search rules in
    let r = c.index.result.now in
    let l = read_link bs c.in-Some.place h.0 r c.args.link.now s c.index.ensures h.2 in
    c.size_within.ensures ∙ ap (λ ps. min (size_of g.M.Machine.words ps) (2 ^ 64 - 1)) (c.as_slice-in-Some.ensures ∙ sym (ap (waiting bs) (sym l) ∙ found bs c.in-Some.place r c.self.invariant (read_box bs c.in-Some.place h.0 r s c.index.ensures)) ∙ ap (λ b. waiting b c.args.link.now) c.self.view_is)

pub returns-in-None : goal.returns-in-None
returns-in-None g c =
    let bs = c.self.inside.boxes.items in
    let s : has_box c.args.link.now bs ≡ false = search rules in
    ap (λ ps. min (size_of g.M.Machine.words ps) (2 ^ 64 - 1)) (sym (nothing bs c.args.link.now s) ∙ ap (λ b. waiting b c.args.link.now) c.self.view_is)
