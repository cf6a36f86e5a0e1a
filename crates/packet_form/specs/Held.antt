-- How much a message holds: one for each value, and the bytes of its texts and byte runs.
use Rattle.std.specs.Prelude.{ℕ, suc, ◌+◌, List, length, sum_by, Some, None, Option}
use Rattle.gd_variant.specs.Tree.{Tree, Trees, text, name, path, opaque, dict, array, packed_bytes, packed_texts, none, item, plain as tree_of}
use Rattle.gd_variant.specs.declared.value.Variant.{Variant}
use Rattle.gd_variant.specs.declared.message.Target.{Target}
use Rattle.gd_variant.specs.declared.message.Target.TheVariants as target
use Rattle.gd_variant.specs.declared.message.Plain.{Plain}
use Rattle.gd_variant.specs.declared.message.Plain.TheVariants as plain
use Rattle.gd_variant.specs.declared.message.Message.{Message}
use Rattle.gd_variant.specs.declared.message.Message.TheVariants as message

-- the bytes of several texts
abbrev pub bytes_of_texts : List (List ℕ) → ℕ
bytes_of_texts ts = sum_by length ts

abbrev mutual
  pub held_by : Tree → ℕ
  held_by (text t) = suc (length t)
  held_by (name t) = suc (length t)
  held_by (path absolute names subnames) = suc (bytes_of_texts names + bytes_of_texts subnames)
  held_by (opaque code wide bytes) = suc (length bytes)
  held_by (dict ts) = suc (held_by_all ts)
  held_by (array ts) = suc (held_by_all ts)
  held_by (packed_bytes bytes) = suc (length bytes)
  held_by (packed_texts ts) = suc (bytes_of_texts ts)
  held_by t = 1

  pub held_by_all : Trees → ℕ
  held_by_all none = 0
  held_by_all (item t ts) = held_by t + held_by_all ts

abbrev pub held_by_value : Variant → ℕ
held_by_value v = held_by (tree_of v)

abbrev pub held_by_values : List Variant → ℕ
held_by_values vs = sum_by held_by_value vs

abbrev pub held_by_target : Target → ℕ
held_by_target (target.Id id) = 0
held_by_target (target.At at) = length at

abbrev pub held_by_arg : Option Variant → ℕ
held_by_arg None = 0
held_by_arg (Some v) = held_by_value v

abbrev pub held_by_plain : Plain → ℕ
held_by_plain (plain.Call t method args) = held_by_target t + held_by_values args
held_by_plain (plain.Simplify digest id at) = length at
held_by_plain (plain.Confirm ok id) = 0
held_by_plain (plain.Raw bytes) = length bytes
held_by_plain (plain.Spawn scene spawner net syncs title arg values) = length title + held_by_arg arg + held_by_values values
held_by_plain (plain.Despawn net) = 0
held_by_plain (plain.Sync tick entries) = sum_by (λ e. held_by_values e.values) entries
held_by_plain (plain.Delta entries) = sum_by (λ e. held_by_values e.values) entries

abbrev pub held_by_message : Message → ℕ
held_by_message (message.Plain p) = held_by_plain p
held_by_message (message.Auth peer bytes) = length bytes
held_by_message (message.AddPeer peer) = 0
held_by_message (message.DelPeer peer) = 0
held_by_message (message.Relay peer inner) = held_by_plain inner
