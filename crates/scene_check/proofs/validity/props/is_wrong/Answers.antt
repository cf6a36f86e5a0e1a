use Rattle.std.proofs.Common.{◌≡◌, Bool, true, false, refl, sym, ◌∙◌}
use Rattle.std.specs.Prelude.{not, ◌||◌}
use Rattle.gd_variant.specs.Sound.{is_sound}
use Rattle.scene_model.specs.Limits.{is_long}
use Rattle.scene_check.proofs.validity.props.is_wrong.Goals as goal

or_right : (a b : Bool) → b ≡ true → true ≡ (a || b)
or_right true b e = refl
or_right false b e = sym e

pub returns-then-is_long : goal.returns-then-is_long
returns-then-is_long c = or_right (not (is_sound c.args.prop.now.value)) (is_long c.args.prop.now.value) (sym c.is_long.ensures ∙ c.if-is_long.true)
