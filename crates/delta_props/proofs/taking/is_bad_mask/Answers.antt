use Rattle.std.proofs.Common.{◌≡◌, ◌||◌, ap, false, not, nat_eq, nat_le, sym, ◌∙◌, ◌^◌, length}
use Rattle.std.proofs.lemmas.Bool.{ne_eqb}
use Rattle.scene_model.specs.Syncs.{change_props}
use Rattle.delta_props.proofs.Judged.{halved_is}
use Rattle.delta_props.proofs.taking.is_bad_mask.Goals as goal

pub returns-else-mask-eq0 : goal.returns-else-mask-eq0
returns-else-mask-eq0 c =
    let some : nat_eq c.args.mask 0 ≡ false = ne_eqb c.args.mask 0 c.if-mask-eq0.false in
    ap (λ r. not (nat_eq r 0)) c.requires ∙ halved_is (change_props c.args.def.now) c.args.mask ∙ sym (ap (λ b. b || nat_le (2 ^ length (change_props c.args.def.now)) c.args.mask) some)
