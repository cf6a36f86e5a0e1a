-- The tokens that are written for values, whose print is their compact text.
use Rattle.std.specs.Prelude.{◌≡◌, List, [], ◌∷◌, ◌++◌}
use Rattle.json.specs.Token.{Token}
use Rattle.json.specs.Tree.{json_tokens}
use Rattle.json.specs.Written.{Written}
use Rattle.serde_json.specs.Data.{Data}
use Rattle.serde_json.specs.Written.{outline}

-- the tokens of a value
unfoldable pub tokens_of : Data → List Token
tokens_of d = json_tokens (outline d)

-- tokens with those of some cells behind them
abbrev pub more : List Token → List Data → List Token
more ts [] = ts
more ts (d ∷ ds) = more (ts ++ tokens_of d) ds

-- a writer has these tokens more, behind the same bytes
abbrev pub Adds : Written → Written → List Token → Type 0
Adds old new ts = (new.before ≡ old.before) × (new.tokens ≡ old.tokens ++ ts)

-- a writer has some cells more, behind the same bytes
abbrev pub AddsCells : Written → Written → List Data → Type 0
AddsCells old new cells = (new.before ≡ old.before) × (new.tokens ≡ more old.tokens cells)
