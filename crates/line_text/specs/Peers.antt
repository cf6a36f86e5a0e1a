-- The number of a peer.
use Rattle.std.specs.Prelude.{ℤ, pos, Ok}
use Rattle.line_text.specs.Reading.{Reading, ◌>>=◌}
use Rattle.line_text.specs.Parts.{nat_read}

-- from 1 on, as much as an i32 holds
unfoldable pub peer_read : Reading ℤ
peer_read d = do
  n ← nat_read 1 2147483647 d
  Ok (pos n)
