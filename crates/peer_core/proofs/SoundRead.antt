-- The values of a spawn that was read are sound.
use Rattle.std.proofs.Common.{◌≡◌, ℕ, ◌<◌, ◌≤◌, ℤ, Bool, true, false, ◌&&◌, List, [], ◌∷◌, ◌++◌, refl, ap, ◌∙◌, length, Some, None, nat_eq, arith, length-append}
use Rattle.std.specs.Prelude.{nat_le}
use Rattle.std.specs.List.{list_all}
use Rattle.std.proofs.lemmas.Bool.{le-leb, and_from}
use Rattle.gd_variant.specs.Tree.{Tree, plain as tree_of}
use Rattle.gd_variant.specs.Size.{tree_size}
use Rattle.gd_variant.specs.Sound.{nesting, is_right, is_sound_tree, is_sound}
use Rattle.gd_variant.specs.declared.message.Target.TheVariants as target
use Rattle.gd_variant.specs.declared.message.DeltaEntry.{DeltaEntry}
use Rattle.gd_variant.specs.declared.message.Plain.{Plain}
use Rattle.gd_variant.specs.declared.message.Plain.TheVariants as plain
use Rattle.gd_variant.specs.declared.message.Message.{Message}
use Rattle.gd_variant.specs.declared.message.Message.TheVariants as message
use Rattle.variant_codec.specs.Readers.{Relation, IsDone, Mapped, Then}
use Rattle.variant_codec.specs.Parts.{SpellsEach}
use Rattle.variant_codec.proofs.Top.{compressed}
use Rattle.packet_form.specs.declared.head.CallHead.{CallHead}
use Rattle.packet_form.specs.declared.head.Head.{Head}
use Rattle.packet_form.specs.declared.head.Head.TheVariants as head
use Rattle.packet_form.specs.Head.{is_plain}
use Rattle.packet_form.specs.Tests.{delta_entry_of}
use Rattle.packet_form.specs.Grammar.{IsValue, IsArgFor, IsCall, IsSpawn, IsDeltaEntry, IsPlainOf, IsPayload, IsMessage}
use Rattle.packet_form.specs.Tests.{is_offset, offset_fits}
use Rattle.packet_form.specs.Wholes.{Fitting, Region, Chosen}
use Rattle.packet_form.specs.Packets.{Frames}
use Rattle.peer_steps.specs.Arguments.{is_sound_argument}
use Rattle.peer_steps.specs.Sound.{is_sound_message}

-- what stands in at most as many bytes as a packet has passes a test
record AllPass {X : Type 0} (p : X → Bool) (R : Relation X) : Type 0 where
  pass : (x : X) (b : List ℕ) → R x b → length b ≤ 8388608 → p x ≡ true

front_short : (b front more : List ℕ) → b ≡ front ++ more → length b ≤ 8388608 → length front ≤ 8388608
front_short b front more e w = omega (arith, ap length e, length-append front more, w)

more_short : (b front more : List ℕ) → b ≡ front ++ more → length b ≤ 8388608 → length more ≤ 8388608
more_short b front more e w = omega (arith, ap length e, length-append front more, w)

pass_any : {X : Type 0} (p : X → Bool) {R : Relation X} → ((x : X) → p x ≡ true) → AllPass p R
pass_any p h = record { pass = λ x b r w. h x }

pass_done : {X : Type 0} (p : X → Bool) (x : X) → p x ≡ true → AllPass p (IsDone x)
pass_done p x h = record { pass = λ y b r w. ap p r.0 ∙ h }

pass_seen : {X Y : Type 0} (p : Y → Bool) (f : X → Y) {R : Relation X} → AllPass (λ x. p (f x)) R → AllPass p (Mapped f R)
pass_seen p f a = record { pass = λ y b r w. ap p r.1 ∙ a.pass r.0 b r.2 w }

pass_behind : {X Y : Type 0} {p : Y → Bool} {R : Relation X} {S : X → Relation Y} → ((x : X) → AllPass p (S x)) → AllPass p (Then R S)
pass_behind a = record { pass = λ y b r w. (a r.0).pass y r.2 r.4 (more_short b r.1 r.2 r.5 w) }

-- what stands behind a part that passes another test
pass_then : {X Y : Type 0} {p : Y → Bool} (q : X → Bool) {R : Relation X} {S : X → Relation Y} → AllPass q R → ((x : X) → q x ≡ true → AllPass p (S x)) → AllPass p (Then R S)
pass_then q f a = record { pass = λ y b r w. (a r.0 (f.pass r.0 r.1 r.3 (front_short b r.1 r.2 r.5 w))).pass y r.2 r.4 (more_short b r.1 r.2 r.5 w) }

pass_fitting : {X Y : Type 0} {p : Y → Bool} (ok : X → ℕ → Bool) {R : Relation X} {S : X → Relation Y} → ((x : X) → AllPass p (S x)) → AllPass p (Fitting ok R S)
pass_fitting ok a = record { pass = λ y b r w. (a r.0).pass y r.2 r.5 (more_short b r.1 r.2 r.6 w) }

pass_chosen : {X : Type 0} {p : X → Bool} {R S : Relation X} (b : Bool) → AllPass p R → AllPass p S → AllPass p (Chosen b R S)
pass_chosen true a c = a
pass_chosen false a c = c

pass_region : {X : Type 0} {p : X → Bool} (n : ℕ) {R : Relation X} → AllPass p R → AllPass p (Region n R)
pass_region n a = record { pass = λ x b r w. a.pass x b r.1 w }

each_passes : {X : Type 0} {p : X → Bool} {R : Relation X} → AllPass p R → (xs : List X) (b : List ℕ) → SpellsEach R xs b → length b ≤ 8388608 → list_all p xs ≡ true
each_passes a [] b r w = refl
each_passes {p = p} a (x ∷ xs) b (front, rest, r, s, e) w = and_from (p x) (list_all p xs) (a.pass x front r (front_short b front rest e w)) (each_passes a xs rest s (more_short b front rest e w))

pass_each : {X : Type 0} {p : X → Bool} {R : Relation X} → AllPass p R → AllPass (list_all p) (SpellsEach R)
pass_each a = record { pass = each_passes a }

-- values

sound_from : (t : Tree) → is_right t ≡ true → nesting t < 33 → tree_size t ≤ 8388608 → is_sound_tree t ≡ true
sound_from t r n s = and_from (is_right t && nat_le (nesting t) 32) (nat_le (tree_size t) 8388608) (and_from (is_right t) (nat_le (nesting t) 32) r (le-leb (nesting t) 32 (omega (arith, n)))) (le-leb (tree_size t) 8388608 s)

values_pass : AllPass is_sound IsValue
values_pass = record { pass = λ v b r w. sound_from (tree_of v) (compressed.right (tree_of v) b r.1) r.0 (compressed.fits (tree_of v) b r.1 w) }

argument_passes : (scene : ℕ) → AllPass is_sound_argument (IsArgFor scene)
argument_passes scene = pass_chosen (nat_eq scene 255) (pass_seen is_sound_argument (λ v. Some v) (pass_behind (λ size. pass_region size values_pass))) (pass_done is_sound_argument None refl)

-- packets

abbrev is_sound_plain : Plain → Bool
is_sound_plain p = is_sound_message (message.Plain p)

calls_pass : (h : CallHead) → AllPass is_sound_plain (IsCall h)
calls_pass h = pass_fitting (offset_fits h) (λ id. pass_chosen (is_offset h.node id)
    (pass_behind (λ method. pass_behind (λ args. pass_seen is_sound_plain (λ path. plain.Call (target.At path) method args) (pass_any (λ path. true) (λ path. refl)))))
    (pass_behind (λ method. pass_seen is_sound_plain (λ args. plain.Call (target.Id id) method args) (pass_any (λ args. true) (λ args. refl)))))

spawns_pass : AllPass is_sound_plain IsSpawn
spawns_pass =
    pass_behind (λ scene. pass_behind (λ spawner. pass_behind (λ net. pass_behind (λ count. pass_behind (λ len. pass_behind (λ syncs. pass_behind (λ name.
    pass_then is_sound_argument (argument_passes scene) (λ arg sound.
    pass_seen is_sound_plain (λ values. plain.Spawn scene spawner net syncs name arg values)
    (record { pass = λ values b r w. and_from (is_sound_argument arg) (list_all is_sound values) sound (each_passes values_pass values b r w) })))))))))

delta_entries_pass : AllPass (λ (t : DeltaEntry). list_all is_sound t.values) IsDeltaEntry
delta_entries_pass = pass_behind (λ id. pass_behind (λ mask. pass_seen (λ (t : DeltaEntry). list_all is_sound t.values) (delta_entry_of id mask) (pass_behind (λ size. pass_region size (pass_each values_pass)))))

plains_pass : (h : Head) → AllPass is_sound_plain (IsPlainOf h)
plains_pass (head.Call h) = calls_pass h
plains_pass head.Simplify = pass_behind (λ digest. pass_behind (λ _. pass_behind (λ id. pass_seen is_sound_plain (λ path. plain.Simplify digest id path) (pass_any (λ path. true) (λ path. refl)))))
plains_pass head.Confirm = pass_behind (λ ok. pass_seen is_sound_plain (λ id. plain.Confirm ok id) (pass_any (λ id. true) (λ id. refl)))
plains_pass head.Raw = pass_seen is_sound_plain (λ s. plain.Raw s) (pass_any (λ s. true) (λ s. refl))
plains_pass head.Spawn = spawns_pass
plains_pass head.Despawn = pass_seen is_sound_plain (λ net. plain.Despawn net) (pass_any (λ net. true) (λ net. refl))
plains_pass head.Sync = pass_behind (λ tick. pass_seen is_sound_plain (λ entries. plain.Sync tick entries) (pass_any (λ entries. true) (λ entries. refl)))
plains_pass head.Delta = pass_seen is_sound_plain (λ entries. plain.Delta entries) (record { pass = λ entries b r w. each_passes delta_entries_pass entries b r w })
plains_pass head.System = record { pass = λ p b r w. absurd r }

payloads_pass : (sub : ℕ) (peer : ℤ) → AllPass is_sound_message (IsPayload sub peer)
payloads_pass sub peer =
    pass_chosen (nat_eq sub 0) (pass_seen is_sound_message (λ bytes. message.Auth peer bytes) (pass_any (λ bytes. true) (λ bytes. refl)))
    (pass_chosen (nat_eq sub 1) (pass_done is_sound_message (message.AddPeer peer) refl)
    (pass_chosen (nat_eq sub 2) (pass_done is_sound_message (message.DelPeer peer) refl)
    (pass_seen is_sound_message (λ inner. message.Relay peer inner) (pass_any (λ inner. true) (λ inner. refl)))))

messages_pass : AllPass is_sound_message IsMessage
messages_pass = pass_behind (λ h. pass_chosen (is_plain h) (pass_seen is_sound_message (λ p. message.Plain p) (plains_pass h)) (pass_behind (λ sub. pass_behind (payloads_pass sub))))

-- the values of a message whose packet some bytes are are sound
pub read_sound : (m : Message) (b : List ℕ) → Frames m b → is_sound_message m ≡ true
read_sound m b f = messages_pass.pass m b f.frames f.short
