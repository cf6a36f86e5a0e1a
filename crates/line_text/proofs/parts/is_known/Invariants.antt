use Rattle.std.proofs.Common.{◌≡◌, map, take, false}
use Rattle.gd_variant.specs.Words.{has_text}
use Rattle.line_text.proofs.parts.is_known.Given as goal

-- none of those before is the key
abbrev pub invariant-loop-name : goal.invariant-loop-name
invariant-loop-name l = has_text l.key (map (λ k. k.now) (take l.name-index l.known)) ≡ false
