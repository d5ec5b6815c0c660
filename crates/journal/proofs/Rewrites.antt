-- The commit record, written again as it is.
use Rattle.std.proofs.Common.{◌≡◌, ◌∙◌, ℕ, Bool, List, ap, sym, subst, ⊎_elim}
use Rattle.std.proofs.Math.Path.{fun_ext}
use Rattle.std.proofs.lemmas.Bool.{cases_eq}
use Rattle.disk.specs.declared.update.Update.{Update}
use Rattle.disk.specs.Moments.{Image, History, AddsOnly, applied, put, seen}
use Rattle.disk.proofs.MomentLemmas.{AddsOnly-join}
use Rattle.journal.specs.Cached.{AreCopies}
use Rattle.journal.specs.Commit.{KeepsShown, rewritten}
use Rattle.journal.specs.declared.layout.LogArea.{LogArea}
use Rattle.journal.specs.Layout.{copies, gate, through}
use Rattle.journal.specs.Log.{Log}
use Rattle.journal.specs.Phase.{IsGated}
use Rattle.journal.specs.Settled.{Settles}
use Rattle.journal.proofs.Images.{put_same, put_other}
use Rattle.journal.proofs.Stages.{gate_update}

put_held : (F : Image) (u : Update) → F u.target ≡ u.content → put F u ≡ F
put_held F u is = fun_ext (λ m. ⊎_elim
    (λ (e : u.target ≡ m). put_same F u m e ∙ sym is ∙ ap F e)
    (λ (e : u.target ≡ m → ⊥). put_other F u m e)
    (cases_eq u.target m))

module _ (area : LogArea) (to : List ℕ) (h h1 : History) (again : h1 ≡ rewritten to h) (gate_is : seen h.now 1 ≡ gate to) where
  -- a read gives what it gave
  pub seen_again : seen h1.now ≡ seen h.now
  seen_again = ap (λ (k : History). seen k.now) again ∙ put_held (seen h.now) (gate_update to) gate_is

  pub gated_again : IsGated to h1
  gated_again = record {
    rests = ap (λ (k : History). k.now.unsynced) again;
    gate_is = ap (λ (image : Image). image 1) seen_again ∙ gate_is;
  }

  pub payload_again : copies (seen h1.now) area.first to ≡ copies (seen h.now) area.first to
  payload_again = ap (λ (image : Image). copies image area.first to) seen_again

  -- and what happens then keeps what the gate showed before
  pub shown_again : (h2 : History) → KeepsShown area to h h1 → KeepsShown area to h1 h2 → KeepsShown area to h h2
  shown_again h2 first then = AddsOnly-join (λ image. Settles area image (through area to (seen h.now))) h h1 h2 first
      (subst (λ (F : Image). AddsOnly (λ image. Settles area image (through area to F)) h1 h2) seen_again then)

  pub cached_again : (us : List Update) (es : List (ℕ × List ℕ))
      → AreCopies area.end (applied us (through area to (seen h.now))) es → AreCopies area.end (applied us (through area to (seen h1.now))) es
  cached_again us es copies = subst (λ (F : Image). AreCopies area.end (applied us (through area to F)) es) (sym seen_again) copies

  -- of a journal's log only the history changed
  pub log_again : (list : List (List Update)) (down up : Bool) (size size1 : ℕ) → down ≡ up → size1 ≡ size
      → (let old : Log = record { base = through area to (seen h.now); list = list; is_down = down; area = area; size = size; history = h } in
      let new : Log = record { base = through area to (seen h1.now); list = list; is_down = up; area = area; size = size1; history = h1 } in
      new ≡ record old { history = rewritten to h })
  log_again list down up size size1 same at =
      let is : Image → Bool → ℕ → History → Log = λ image state n k. record { base = through area to image; list = list; is_down = state; area = area; size = n; history = k } in
      ap (λ (image : Image). is image up size1 h1) seen_again
      ∙ (ap (λ (state : Bool). is (seen h.now) state size1 h1) (sym same)
      ∙ (ap (λ (n : ℕ). is (seen h.now) down n h1) at
      ∙ ap (λ (k : History). is (seen h.now) down size k) again))
