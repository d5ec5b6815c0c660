use Rattle.std.proofs.Common.{◌≡◌, ◌∙◌, ◌++◌, ◌∷◌, [], None, Option, ap, sym, subst, List, ℕ, length, replicate, set, arith}
use Rattle.disk.specs.declared.update.Update.{Update}
use Rattle.tree_transaction.specs.Updates.{HasNoUpdate, IsFirst, encoded, target_of}
use Rattle.tree_transaction.proofs.PendingLaws.{encoded-len, encoded-more, first-encoded, none-encoded}
use Rattle.tree_transaction.proofs.UpdateLaws.{set-last, target_of-last, updated-first, updated-none}
use Rattle.tree_transaction.proofs.updates.place_for.Goals as goal

abbrev zeros : (target : ℕ) → Update
zeros target = record { target = target; content = replicate 4096 0 }

pub returns-in-Some-clause-there : goal.returns-in-Some-clause-there
returns-in-Some-clause-there c =
    let first : IsFirst (encoded c.args.list.now.items c.args.pending.now.items) c.args.target c.in-Some.place = first-encoded c.args.list.now.items c.args.pending.now.items c.args.target c.in-Some.place
    (subst (λ (us : List Update). IsFirst us c.args.target c.in-Some.place) c.deref.ensures.value c.in-Some.ensures.some) in
    first.there

pub returns-in-Some-clause-put : goal.returns-in-Some-clause-put
returns-in-Some-clause-put c = λ content. sym (updated-first (encoded c.args.list.now.items c.args.pending.now.items) (record { target = c.args.target; content = content }) c.in-Some.place
    (first-encoded c.args.list.now.items c.args.pending.now.items c.args.target c.in-Some.place (subst (λ (us : List Update). IsFirst us c.args.target c.in-Some.place) c.deref.ensures.value c.in-Some.ensures.some)))

module _ (c : goal.After-push_reserved-2) where
  before : List Update
  before = encoded c.args.list.now.items c.args.pending.now.items

  items : c.push_reserved.new.self.items ≡ c.args.list.now.items ++ zeros c.args.target ∷ []
  items = c.push_reserved.ensures.items ∙ ap (λ (us : List Update). us ++ zeros c.args.target ∷ []) c.in_ok-reserve.ensures.items

  nones : c.push_reserved-2.new.self.items ≡ c.args.pending.now.items ++ None ∷ []
  nones = c.push_reserved-2.ensures.items ∙ ap (λ (ps : List (Option (List ℕ))). ps ++ None ∷ []) c.in_ok-reserve-2.ensures.items

  both : encoded c.push_reserved.new.self.items c.push_reserved-2.new.self.items ≡ before ++ zeros c.args.target ∷ []
  unfolding before
  both = ap (λ (us : List Update). encoded us c.push_reserved-2.new.self.items) items ∙ ap (encoded (c.args.list.now.items ++ zeros c.args.target ∷ [])) nones
      ∙ encoded-more c.args.list.now.items c.args.pending.now.items (zeros c.args.target) c.requires

  last : c.len-last.result ≡ length before
  unfolding before
  last = omega (arith, c.len-last.ensures, encoded-len c.args.list.now.items c.args.pending.now.items)

pub returns-clause-there : goal.returns-clause-there
returns-clause-there c = ap (λ (us : List Update). target_of us c.len-last.result) (both c) ∙ ap (λ (n : ℕ). target_of (before c ++ zeros c.args.target ∷ []) n) (last c)
    ∙ target_of-last (before c) (zeros c.args.target)

pub returns-clause-put : goal.returns-clause-put
unfolding before
returns-clause-put c = λ content.
    let update : Update = record { target = c.args.target; content = content } in
    ap (λ (us : List Update). set us c.len-last.result update) (both c) ∙ ap (λ (n : ℕ). set (before c ++ zeros c.args.target ∷ []) n update) (last c)
    ∙ set-last (before c) (zeros c.args.target) update
    ∙ sym (updated-none (before c) update (none-encoded c.args.list.now.items c.args.pending.now.items c.args.target (subst (λ (us : List Update). HasNoUpdate c.args.target us) c.deref.ensures.value c.in_default.ensures.none)))
