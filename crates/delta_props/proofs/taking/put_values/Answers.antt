use Rattle.std.proofs.Common.{◌≡◌, ◌+◌, ◌/◌, ◌%◌, true, ap, sym, ◌∙◌}
use Rattle.std.specs.Prelude.{slice_get, remove}
use Rattle.std.proofs.lemmas.Bool.{eq-eqb, ne_eqb}
use Rattle.gd_variant.specs.Words.{some_is}
use Rattle.scene_model.specs.declared.scene.Scene.{Scene}
use Rattle.headless_tree.specs.Nodes.{TreeOf}
use Rattle.delta_props.specs.Taking.{prop_at, props_at, put_where}
use Rattle.delta_props.proofs.Putting.{on_change, putting_same, putting_off, putting_skip, putting_some, putting_on, putting_short}
use Rattle.delta_props.proofs.taking.put_values.Goals.{then-changes_at, then-rest-eq1, else-rest-eq1, else-changes_at}
use Rattle.delta_props.proofs.taking.put_values.Goals as goal

pub remove-value-requires : goal.remove-value-requires
remove-value-requires c =
    let props = props_at c.args.tree.now.scene c.args.at in
    let scene = c.scene-in-loop-j.ensures ∙ c.loop-j.invariant.scene in
    let on : some_is on_change (slice_get props c.loop-j.j) ≡ true = sym (ap (λ (s : Scene). some_is on_change (prop_at s c.args.at c.loop-j.j)) scene) ∙ sym c.if-changes_at.ensures in
    putting_some c.args.tree.now c.args.place c.args.mask props c.args.values c.loop-j.tree c.loop-j.j c.loop-j.rest c.loop-j.values c.loop-j.invariant on (eq-eqb (c.loop-j.rest % 2) 1 c.if-rest-eq1.true)

pub put_value-requires : goal.put_value-requires
put_value-requires c = putting_short c.args.tree.now c.args.place c.args.mask (props_at c.args.tree.now.scene c.args.at) c.args.values c.loop-j.tree c.loop-j.j c.loop-j.rest c.loop-j.values c.remove-value.result c.loop-j.invariant c.remove-value.ensures.item

pub loop-j-preserved : goal.loop-j-preserved
loop-j-preserved c =
    let props = props_at c.args.tree.now.scene c.args.at in
    let scene = c.scene-in-loop-j.ensures ∙ c.loop-j.invariant.scene in
    let read : c.changes_at.result ≡ some_is on_change (slice_get props c.loop-j.j) = c.changes_at.ensures ∙ ap (λ (s : Scene). some_is on_change (prop_at s c.args.at c.loop-j.j)) scene in
    elim c.if-changes_at.branch [
      | then-changes_at w ↦
          let on : some_is on_change (slice_get props c.loop-j.j) ≡ true = sym read ∙ w.if-changes_at.true in
          elim w.if-rest-eq1.branch [
            | then-rest-eq1 v ↦
                let set = eq-eqb (c.loop-j.rest % 2) 1 v.if-rest-eq1.true in
                let put : v.put_value.new.tree ≡ record c.loop-j.tree { nodes = put_where c.args.place (slice_get props c.loop-j.j) v.remove-value.result c.loop-j.tree.nodes } =
                v.put_value.ensures ∙ ap {B = TreeOf} (λ (s : Scene). record c.loop-j.tree { nodes = put_where c.args.place (prop_at s c.args.at c.loop-j.j) v.remove-value.result c.loop-j.tree.nodes }) c.loop-j.invariant.scene in
                putting_same c.args.tree.now c.args.place c.args.mask props c.args.values _ (c.loop-j.j + 1) (c.loop-j.rest / 2) (remove c.loop-j.values 0)
                (putting_on c.args.tree.now c.args.place c.args.mask props c.args.values c.loop-j.tree c.loop-j.j c.loop-j.rest c.loop-j.values v.remove-value.result c.loop-j.invariant on set v.remove-value.ensures.item)
                c.if-changes_at.tree c.if-changes_at.rest c.if-changes_at.values (w.tree-is ∙ v.tree-is ∙ put) w.rest-is (w.values-is ∙ v.values-is ∙ v.remove-value.ensures.rest)
            | else-rest-eq1 v ↦
                putting_same c.args.tree.now c.args.place c.args.mask props c.args.values c.loop-j.tree (c.loop-j.j + 1) (c.loop-j.rest / 2) c.loop-j.values
                (putting_skip c.args.tree.now c.args.place c.args.mask props c.args.values c.loop-j.tree c.loop-j.j c.loop-j.rest c.loop-j.values c.loop-j.invariant on (ne_eqb (c.loop-j.rest % 2) 1 v.if-rest-eq1.false))
                c.if-changes_at.tree c.if-changes_at.rest c.if-changes_at.values (w.tree-is ∙ v.tree-is) w.rest-is (w.values-is ∙ v.values-is)
          ]
      | else-changes_at w ↦
          putting_same c.args.tree.now c.args.place c.args.mask props c.args.values c.loop-j.tree (c.loop-j.j + 1) c.loop-j.rest c.loop-j.values
          (putting_off c.args.tree.now c.args.place c.args.mask props c.args.values c.loop-j.tree c.loop-j.j c.loop-j.rest c.loop-j.values c.loop-j.invariant (sym read ∙ w.if-changes_at.false))
          c.if-changes_at.tree c.if-changes_at.rest c.if-changes_at.values w.tree-is w.rest-is w.values-is
    ]
