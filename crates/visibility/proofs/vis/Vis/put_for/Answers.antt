use Rattle.std.proofs.Common.{ℤ, Bool, List, ap, ◌∙◌, map, rules, w32}
use Rattle.std.specs.Ordering.{int_eq}
use Rattle.std.proofs.lemmas.Int.{to_z-of_z}
use Rattle.indexmap.specs.IndexMap.{insert_entry}
use Rattle.sight_laws.specs.Sights.{Sight, Setting, with_setting}
use Rattle.visibility.specs.Settings.{kept_setting}
use Rattle.visibility.proofs.Kept.{put_is}
use Rattle.visibility.proofs.vis.Vis.put_for.Goals as goal

pub returns : goal.returns
returns c =
    let made : List Setting → Sight = λ ss. record { public = c.self.inside.public; set = ss; filters = c.self.inside.filters.items } in
    ap (λ (es : List (ℤ × Bool)). made (map kept_setting es)) c.in_ok-insert.ensures.entries
    ∙ ap (λ (b : ℤ). made (map kept_setting (insert_entry int_eq c.self.inside.set.entries b c.args.on))) (to_z-of_z w32 c.args.peer.now (search rules))
    ∙ ap made (put_is c.args.peer.now c.args.on c.self.inside.set.entries)
    ∙ ap (with_setting c.args.peer.now c.args.on) c.self.view_is
