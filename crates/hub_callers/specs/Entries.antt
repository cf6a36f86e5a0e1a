-- What a caller did that entered a list of events.
use Rattle.std.specs.Prelude.{◌≡◌, List, ◌++◌, length, map, Some}
use Rattle.turn_hub.specs.declared.entry.Did.{Did}
use Rattle.turn_hub.specs.declared.entry.Did.TheVariants as did
use Rattle.turn_hub.specs.Known.{Known}
use Rattle.turn_hub.specs.Rises.{Rises}
use Rattle.turn_hub.specs.Calls.{own}

-- the entry of an event
abbrev pub entry : {E : Type 0} → E → Did E
entry e = did.Event e

module _ {E K : Type 0} where
  -- the seat's own entries are these events behind those that it had; all else of it but what it saw is as before
  pub record Entries (v w : Known E K) (es : List E) : Type 0 where
    pub hub : w.hub ≡ v.hub
    pub kind : w.kind ≡ v.kind
    pub met : w.met ≡ v.met
    pub units : w.units ≡ v.units
    pub rises : Rises 0 w.mine (length w.seen)
    pub own : own w.seen w.mine ≡ own v.seen v.mine ++ map (λ e. Some (entry e)) es
