-- What an event counts in the journal: 64, and the bytes of its texts, packet bytes and values in binary form.
use Rattle.std.specs.Prelude.{ℕ, ◌+◌, List, length, min, sum_by, Option, Some, None}
use Rattle.gd_variant.specs.declared.value.Variant.{Variant}
use Rattle.gd_variant.specs.Size.{value_size}
use Rattle.scene_model.specs.declared.scene.Prop.{Prop}
use Rattle.scene_model.specs.declared.event.SpawnOp.{SpawnOp}
use Rattle.scene_model.specs.declared.event.CallOp.{CallOp}
use Rattle.scene_model.specs.declared.event.Op.{Op}
use Rattle.scene_model.specs.declared.event.Op.TheVariants as op
use Rattle.scene_model.specs.declared.event.Event.{Event}
use Rattle.scene_model.specs.declared.event.Event.TheVariants as event

-- a value in binary form: a sound one has at most 8,388,608 bytes
abbrev pub value_weight : Variant → ℕ
value_weight v = min (value_size v) 8388609

abbrev pub text_weight : List ℕ → ℕ
text_weight t = length t

abbrev pub maybe_text : Option (List ℕ) → ℕ
maybe_text None = 0
maybe_text (Some t) = text_weight t

abbrev pub maybe_value : Option Variant → ℕ
maybe_value None = 0
maybe_value (Some v) = value_weight v

abbrev pub prop_weight : Prop → ℕ
prop_weight p = text_weight p.name + value_weight p.value

abbrev pub spawn_weight : SpawnOp → ℕ
spawn_weight o = sum_by prop_weight o.sets + text_weight o.spawner + maybe_text o.scene + text_weight o.name + maybe_value o.arg

abbrev pub call_weight : CallOp → ℕ
call_weight c = sum_by value_weight c.args + text_weight c.path + text_weight c.method

abbrev pub op_weight : Op → ℕ
op_weight (op.Spawn o) = spawn_weight o
op_weight (op.Custom o) = spawn_weight o
op_weight (op.Despawn path) = text_weight path
op_weight (op.Set path prop value) = text_weight path + text_weight prop + value_weight value
op_weight (op.Public path k on) = text_weight path
op_weight (op.For path k peer on) = text_weight path
op_weight (op.Filter path k peers) = text_weight path
op_weight (op.Call c) = call_weight c
op_weight (op.Raw to class bytes) = length bytes
op_weight op.Frame = 0

abbrev pub event_weight : Event → ℕ
event_weight (event.Op o) = op_weight o + 64
event_weight (event.Up p) = 64
event_weight (event.Down p) = 64
event_weight (event.Received from class bytes) = 64 + length bytes
