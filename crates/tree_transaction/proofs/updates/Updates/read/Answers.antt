use Rattle.std.proofs.Common.{◌≡◌, ◌∙◌, [], sym, ap, List, ℕ, Option, subst, IfOk}
use Rattle.disk.specs.Moments.{applied}
use Rattle.disk.specs.declared.update.Update.{Update}
use Rattle.tree_transaction.specs.Updates.{IsFirst, HasNoUpdate, content_of, encoded}
use Rattle.tree_transaction.proofs.PendingLaws.{content_of-at, first-encoded, none-encoded}
use Rattle.tree_transaction.proofs.UpdateLaws.{applied-first, applied-other}
use Rattle.tree_transaction.proofs.updates.Updates.read.Goals as goal

pub returns-in-Some-clause-content : goal.returns-in-Some-clause-content
returns-in-Some-clause-content g c word =
    let image = g.S.Sectors.image (g.S.Sectors.kept c.args.base.now) in
    let list = c.self.inside.list.items in
    let pending = c.self.inside.pending.items in
    let place = c.in-Some.place in
    let other : Update = record { target = 0; content = [] } in
    let first : IsFirst (encoded list pending) c.args.n place = first-encoded list pending c.args.n place (subst (λ (us : List Update). IsFirst us c.args.n place) c.deref.ensures.value c.in-Some.ensures.some) in
    c.content_at.ensures ∙ ap (λ (us : List Update). content_of (encoded us c.deref-in-Some-2.result.now) place) c.deref-in-Some.ensures.value
    ∙ ap (λ (ps : List (Option (List ℕ))). content_of (encoded list ps) place) c.deref-in-Some-2.ensures.value
    ∙ content_of-at (encoded list pending) place other first.within
    ∙ sym (applied-first (encoded list pending) image c.args.n place other c.self.invariant.1 first)
    ∙ ap (λ (us : List Update). applied us image c.args.n) c.self.view_is

pub returns-in-None-clause-content : goal.returns-in-None-clause-content
returns-in-None-clause-content g c word =
    let image = g.S.Sectors.image (g.S.Sectors.kept c.args.base.now) in
    let list = c.self.inside.list.items in
    let pending = c.self.inside.pending.items in
    let none : HasNoUpdate c.args.n (encoded list pending) = none-encoded list pending c.args.n (subst (λ (us : List Update). HasNoUpdate c.args.n us) c.deref.ensures.value c.in-None.ensures.none) in
    let e = sym (applied-other (encoded list pending) image c.args.n none) ∙ ap (λ (us : List Update). applied us image c.args.n) c.self.view_is in
    subst (λ (v : List ℕ). IfOk c.read.result (λ content. content ≡ v)) e (c.read.ensures.content word)
