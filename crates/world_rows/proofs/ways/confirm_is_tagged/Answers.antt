use Rattle.std.proofs.Common.{refl}
use Rattle.md5.specs.Md5.{md5, hash_after, digest_bytes, compress, rounds, block_words}
use Rattle.scene_model.specs.Methods.{method_digest}
use Rattle.world_rows.proofs.ways.confirm_is_tagged.Goals as goal

pub returns : goal.returns
unfolding method_digest md5 hash_after digest_bytes compress rounds block_words
returns c = refl
