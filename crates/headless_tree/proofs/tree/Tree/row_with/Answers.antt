use Rattle.std.proofs.Common.{ℕ, List, sym, ap, ◌∙◌}
use Rattle.std.specs.Prelude.{position}
use Rattle.headless_tree.specs.Nodes.{TreeOf, live, is_at}
use Rattle.headless_tree.specs.Numbers.{is_numbered, has_paths_once}
use Rattle.headless_tree.proofs.Numbered.{no_path, no_place, other_row, this_row}
use Rattle.headless_tree.proofs.Spots.{live_there}
use Rattle.headless_tree.proofs.tree.Tree.row_with.Goals as goal

pub returns-then-has_this_number : goal.returns-then-has_this_number
returns-then-has_this_number c =
    let same = ap (λ (t : TreeOf). t.nodes) (sym c.self.view_is) in
    let place = ap (λ (p : List ℕ). position (is_at p) c.args.self.now.nodes) (sym c.as_str.ensures.same) ∙ sym c.in-Some-place_of.ensures.place in
    sym (this_row c.self.inside.numbers c.args.self.now.nodes c.args.auth.now c.args.id
    (ap (is_numbered c.self.inside.numbers) same ∙ c.self.invariant.2) (ap has_paths_once same ∙ c.self.invariant.1)
    c.in-Some.path.now c.in-Some-place_of.place (live c.index.result.now) (sym c.in-Some.ensures) place
    (live_there c.self.inside.nodes.items c.args.self.now.nodes c.in-Some.path.now c.in-Some-place_of.place c.index.result.now same place c.index.ensures)
    (sym c.if-has_this_number.ensures))

pub returns-else-has_this_number : goal.returns-else-has_this_number
returns-else-has_this_number c =
    let same = ap (λ (t : TreeOf). t.nodes) (sym c.self.view_is) in
    let place = ap (λ (p : List ℕ). position (is_at p) c.args.self.now.nodes) (sym c.as_str.ensures.same) ∙ sym c.in-Some-place_of.ensures.place in
    sym (other_row c.self.inside.numbers c.args.self.now.nodes c.args.auth.now c.args.id
    (ap (is_numbered c.self.inside.numbers) same ∙ c.self.invariant.2) (ap has_paths_once same ∙ c.self.invariant.1)
    c.in-Some.path.now c.in-Some-place_of.place (live c.index.result.now) (sym c.in-Some.ensures) place
    (live_there c.self.inside.nodes.items c.args.self.now.nodes c.in-Some.path.now c.in-Some-place_of.place c.index.result.now same place c.index.ensures)
    (sym c.if-has_this_number.ensures))

pub returns-in-None-place_of : goal.returns-in-None-place_of
returns-in-None-place_of c =
    let same = ap (λ (t : TreeOf). t.nodes) (sym c.self.view_is) in
    sym (no_place c.self.inside.numbers c.args.self.now.nodes c.args.auth.now c.args.id
    (ap (is_numbered c.self.inside.numbers) same ∙ c.self.invariant.2) (ap has_paths_once same ∙ c.self.invariant.1)
    c.in-Some.path.now (sym c.in-Some.ensures)
    (ap (λ (p : List ℕ). position (is_at p) c.args.self.now.nodes) (sym c.as_str.ensures.same) ∙ sym c.in-None-place_of.ensures.place))

pub returns-in-None : goal.returns-in-None
returns-in-None c =
    let same = ap (λ (t : TreeOf). t.nodes) (sym c.self.view_is) in
    sym (no_path c.self.inside.numbers c.args.self.now.nodes c.args.auth.now c.args.id
    (ap (is_numbered c.self.inside.numbers) same ∙ c.self.invariant.2) (ap has_paths_once same ∙ c.self.invariant.1)
    (sym c.in-None.ensures))
