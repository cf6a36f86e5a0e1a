use Rattle.std.proofs.Common.{◌≡◌, map}
use Rattle.serde_json.specs.View.{members_view}
use Rattle.line_text.specs.Parts.{all_known}
use Rattle.line_text.proofs.parts.are_known.Given as goal

-- what is left to see decides
abbrev pub invariant-loop-key : goal.invariant-loop-key
invariant-loop-key l = all_known (map (λ k. k.now) l.known) (members_view l.key-iterator) ≡ all_known (map (λ k. k.now) l.known) (members_view l.members.entries)
