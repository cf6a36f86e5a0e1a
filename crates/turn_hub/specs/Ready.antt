-- A seat between its calls.
use Rattle.std.specs.Prelude.{◌≡◌, ℕ, ◌<◌, ◌≤◌, [], length}
use Rattle.atomic_table.specs.Seated.{TableId}
use Rattle.turn_hub.specs.Words.{Words}
use Rattle.turn_hub.specs.declared.rule.View.{View}
use Rattle.turn_hub.specs.declared.rule.Stage.TheVariants.{Idle}
use Rattle.turn_hub.specs.History.{Legal}
use Rattle.turn_hub.specs.Kept.{Caller, all_units}
use Rattle.turn_hub.specs.Known.{Known}
use Rattle.turn_hub.specs.Rises.{Rises}

-- what contracts see of a caller with these units
abbrev pub known : {E K : Type 0} → TableId → View E K → ℕ → Known E K
known hub v units = record { hub = hub; kind = v.kind; seen = v.seen; mine = v.mine; met = v.met; turn = v.turn; units = units }

pub record Ready {K E O P : Type 0} (w : Words K E O P) (me : Caller E K) (units : ℕ) : Type 0 where
  pub idle : me.0.stage ≡ Idle
  pub empty : me.1 ≡ []
  pub units_are : me.0.units ≡ units
  pub some : 0 < units
  pub most : units ≤ all_units
  pub legal : Legal w me.0.kind me.0.seen
  pub rises : Rises 0 me.0.mine (length me.0.seen)
