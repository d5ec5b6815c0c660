-- Sector 0, written by itself apart from what the gate names.
use Rattle.std.proofs.Common.{◌≡◌, ◌≤◌, ◌<◌, ◌⊎◌, ◌+◌, ℕ, List, [], ◌∷◌, length, refl, sym, ap, ◌∙◌, inl, inr, ⊎_elim, arith}
use Rattle.std.proofs.lemmas.Bool.{cases_eq}
use Rattle.disk.specs.declared.update.Update.{Update}
use Rattle.disk.specs.Moments.{Image, History, seen, put, applied}
use Rattle.disk.proofs.MomentLemmas.{AddsOnly-weaken}
use Rattle.journal.specs.declared.layout.LogArea.{LogArea}
use Rattle.journal.specs.Layout.{AreNamed, IsArea, copies, gate, home, through, targets}
use Rattle.journal.specs.Settled.{AreSame, Settles}
use Rattle.journal.specs.Phase.{LeftWith, AddsUpdates, IsFixedAs, IsGated}
use Rattle.journal.specs.Commit.{AddsEither}
use Rattle.journal.proofs.Images.{Out, Fit, applied_out, Between, put_same, put_other, copies_same, home_cases, home_of_out, low_out, low_named, named_of}
use Rattle.journal.proofs.Stages.{between_one}
use Rattle.journal.proofs.Moments.{between_of}
use Rattle.journal.proofs.Commits.{seen_fixed}
use Rattle.journal.proofs.Lists.{applied_at}

home_not_0 : (area : LogArea) → IsArea area → (to : List ℕ) (n : ℕ) → (n ≡ 0 → ⊥) → 0 ≡ home to area.first n → ⊥
home_not_0 area is to n ne e = ⊎_elim
    (λ (w : Out to n × (home to area.first n ≡ n)). ne (sym w.1 ∙ sym e))
    (λ (w : (area.first ≤ home to area.first n) × (home to area.first n < area.first + length to)). omega (arith, w.0, e, is.behind))
    (home_cases to area.first n)

module _ (area : LogArea) (is : IsArea area) (to : List ℕ) (F : Image) (content : List ℕ) (few : length to ≤ area.sectors) (fit : AreNamed area to) where
  home_0 : (n : ℕ) → n ≡ 0 → home to area.first n ≡ 0
  home_0 n e = home_of_out to area.first n (low_named area.end to n (named_of area to fit) (omega arith)) ∙ e

  pub superblock_same : (n : ℕ) → (let u : Update = record { target = 0; content = content } in put (through area to F) u n ≡ through area to (put F u) n)
  superblock_same n =
      let u : Update = record { target = 0; content = content } in
      ⊎_elim
      (λ (q : n ≡ 0). put_same (through area to F) u n (sym q) ∙ sym (ap (put F u) (home_0 n q) ∙ put_same F u 0 refl))
      (λ (q : n ≡ 0 → ⊥). put_other (through area to F) u n (λ e. q (sym e)) ∙ sym (put_other F u (home to area.first n) (home_not_0 area is to n q)))
      (cases_eq n 0)

  pub superblock_stage : (image : Image) → F 1 ≡ gate to
      → (let u : Update = record { target = 0; content = content } in
      Between F (u ∷ []) image → Settles area image (through area to F) ⊎ Settles area image (put (through area to F) u))
  superblock_stage image open_for b =
      let u : Update = record { target = 0; content = content } in
      let one = between_one F u image b in
      let named : image 1 ≡ gate to = one.1 1 (λ e. omega arith) ∙ open_for in
      let rest : (n : ℕ) → (n ≡ 0 → ⊥) → image (home to area.first n) ≡ F (home to area.first n) = λ n q. one.1 (home to area.first n) (home_not_0 area is to n q) in
      ⊎_elim
      (λ (e : image 0 ≡ F 0). inl (record {
        to = to;
        few = few;
        fit = fit;
        gate_is = named;
        same = λ n k. ⊎_elim
            (λ (q : n ≡ 0). ap F (home_0 n q) ∙ sym e ∙ sym (ap image (home_0 n q)))
            (λ (q : n ≡ 0 → ⊥). sym (rest n q))
            (cases_eq n 0);
      }))
      (λ (e : image 0 ≡ content). inr (record {
        to = to;
        few = few;
        fit = fit;
        gate_is = named;
        same = λ n k. ⊎_elim
            (λ (q : n ≡ 0). put_same (through area to F) u n (sym q) ∙ sym e ∙ sym (ap image (home_0 n q)))
            (λ (q : n ≡ 0 → ⊥). put_other (through area to F) u n (λ r. q (sym r)) ∙ sym (rest n q))
            (cases_eq n 0);
      }))
      one.0

-- what reads give: no transaction names sector 0
pub superblock_contents : (size : ℕ) (us : List Update) (base base1 : Image) (content : List ℕ) → Fit size (targets us)
    → (let u : Update = record { target = 0; content = content } in AreSame size (put base u) base1 → AreSame size (put (applied us base) u) (applied us base1))
superblock_contents size us base base1 content fit same n k =
    let u : Update = record { target = 0; content = content } in
    ⊎_elim
    (λ (q : n ≡ 0).
    let out : Out (targets us) n = low_out size (targets us) n fit (omega (arith, q)) in
    put_same (applied us base) u n (sym q) ∙ sym (put_same base u n (sym q)) ∙ same n k ∙ sym (applied_out us base1 n out))
    (λ (q : n ≡ 0 → ⊥).
    put_other (applied us base) u n (λ e. q (sym e))
    ∙ applied_at us base base1 n (sym (put_other base u n (λ e. q (sym e))) ∙ same n k))
    (cases_eq n 0)

module _ (area : LogArea) (is : IsArea area) (to : List ℕ) (content : List ℕ) (h h1 : History) (few : length to ≤ area.sectors) (fit : AreNamed area to) (gated : IsGated to h) where
  pub superblock_moments : (let u : Update = record { target = 0; content = content } in
      AddsUpdates (u ∷ []) h h1 → AddsEither area (u ∷ []) (through area to (seen h.now)) h h1)
  superblock_moments w =
      let u : Update = record { target = 0; content = content } in
      AddsOnly-weaken (LeftWith (u ∷ []) h.now) (λ image. Settles area image (through area to (seen h.now)) ⊎ Settles area image (applied (u ∷ []) (through area to (seen h.now)))) h h1
      (λ image l. superblock_stage area is to (seen h.now) content few fit image gated.gate_is (between_of (u ∷ []) h.now image gated.rests l)) w

  pub superblock_base : (let u : Update = record { target = 0; content = content } in
      IsFixedAs (u ∷ []) h h1 → AreSame area.end (put (through area to (seen h.now)) u) (through area to (seen h1.now)))
  superblock_base f n k =
      let u : Update = record { target = 0; content = content } in
      superblock_same area is to (seen h.now) content few fit n ∙ ap (λ (image : Image). through area to image n) (sym (seen_fixed (u ∷ []) h h1 f))

  -- the gate is as it was
  pub superblock_gated : (let u : Update = record { target = 0; content = content } in IsFixedAs (u ∷ []) h h1 → IsGated to h1)
  superblock_gated f =
      let u : Update = record { target = 0; content = content } in
      record {
        rests = f.unsynced;
        gate_is = ap (λ (image : Image). image 1) (seen_fixed (u ∷ []) h h1 f) ∙ put_other (seen h.now) u 1 (λ e. omega arith) ∙ gated.gate_is;
      }

  -- and so is the payload
  pub superblock_payload : (let u : Update = record { target = 0; content = content } in
      IsFixedAs (u ∷ []) h h1 → copies (seen h1.now) area.first to ≡ copies (seen h.now) area.first to)
  superblock_payload f =
      let u : Update = record { target = 0; content = content } in
      copies_same (seen h.now) (seen h1.now) area.first to (λ n l m.
      ap (λ (image : Image). image n) (seen_fixed (u ∷ []) h h1 f) ∙ put_other (seen h.now) u n (λ e. omega (arith, e, l, is.behind)))
