use Rattle.std.proofs.Common.{◌≡◌, rules, subst, sym, ap, ◌∙◌}
use Rattle.scene_model.specs.declared.event.Event.{Event}
use Rattle.turn_hub.specs.Known.{Known}
use Rattle.shared_hub.specs.declared.machine.Kind.{Kind}
use Rattle.hub_callers.specs.declared.job.ServeJob.{ServeJob}
use Rattle.hub_callers.specs.Entries.{Entries}
use Rattle.hub_callers.specs.Serving.{Gives}
use Rattle.hub_callers.proofs.Own.{not_err}
use Rattle.hub_callers.proofs.jobs.run_both.Goals as goal

pub close_both-requires-clause-own : goal.close_both-requires-clause-own
close_both-requires-clause-own g c =
    let v = c.seat-one.result in
    let w = c.seat-two.result in
    let a = c.join-a.result in
    let b = c.join-b.result in
    let s' = subst (λ (j : ServeJob). Gives j a) c.in_ok-a.ensures c.join-a.ensures in
    let t' = subst (λ (j : ServeJob). Gives j b) c.in_ok-b.ensures c.join-b.ensures in
    let s : Entries v a.seat c.args.first.items = not_err a.end (Entries v a.seat c.args.first.items) (sym c.is_err.ensures.value ∙ c.if-is_err.false) s' in
    let t : Entries w b.seat c.args.second.items = not_err b.end (Entries w b.seat c.args.second.items) (sym c.is_err-2.ensures.value ∙ c.if-is_err-2.false) t' in
    let left = ap (λ (k : Known Event Kind). k.hub) c.seat-one.ensures.old in
    let x = ap (λ (k : Known Event Kind). k.hub) c.seat-one.ensures.new in
    let y = ap (λ (k : Known Event Kind). k.hub) c.seat-two.ensures.new in
    let o = ap (λ (k : Known Event Kind). k.hub) c.seat-two.ensures.old in
    let d : c.args.whole.hub ≡ c.deref-3.result.now = search rules in
    (o ∙ left ∙ d, s.hub ∙ x ∙ d, t.hub ∙ y ∙ left ∙ d)

pub close_both-requires-clause-none : goal.close_both-requires-clause-none
close_both-requires-clause-none g c = (
  ap (λ (k : Known Event Kind). k.mine) c.seat-two.ensures.old ∙ ap (λ (k : Known Event Kind). k.mine) c.seat-one.ensures.old ∙ c.requires.fresh.0,
  ap (λ (k : Known Event Kind). k.met) c.seat-two.ensures.old ∙ ap (λ (k : Known Event Kind). k.met) c.seat-one.ensures.old ∙ c.requires.fresh.1,
)

pub returns : goal.returns
returns g c =
    let v = c.seat-one.result in
    let w = c.seat-two.result in
    let a = c.join-a.result in
    let b = c.join-b.result in
    let s' = subst (λ (j : ServeJob). Gives j a) c.in_ok-a.ensures c.join-a.ensures in
    let t' = subst (λ (j : ServeJob). Gives j b) c.in_ok-b.ensures c.join-b.ensures in
    let s : Entries v a.seat c.args.first.items = not_err a.end (Entries v a.seat c.args.first.items) (sym c.is_err.ensures.value ∙ c.if-is_err.false) s' in
    let t : Entries w b.seat c.args.second.items = not_err b.end (Entries w b.seat c.args.second.items) (sym c.is_err-2.ensures.value ∙ c.if-is_err-2.false) t' in
    let vm = ap (λ (k : Known Event Kind). k.mine) c.seat-one.ensures.new in
    let wm = ap (λ (k : Known Event Kind). k.mine) c.seat-two.ensures.new in
    let vn = ap (λ (k : Known Event Kind). k.met) c.seat-one.ensures.new in
    let wn = ap (λ (k : Known Event Kind). k.met) c.seat-two.ensures.new in
    c.close_both.ensures v w c.args.first.items c.args.second.items vm wm vn wn s t
