-- Whether seats are the same.
use Rattle.std.proofs.Common.{◌≡◌, ◌≢◌, ◌⊎◌, inl, inr, ℕ, List, [], ◌∷◌, Option, None, Some, refl, ap, ap₂, ◌∙◌}
use Rattle.std.proofs.lemmas.Bool.{cases_eq}
use Rattle.model_tree.specs.Seats.Seats.{HeldReply, Seat, Seats}

abbrev Decided : Type 0 → Type 0
Decided A = A ⊎ (A → ⊥)

both : (A B : Type 0) → Decided A → Decided B → Decided (A × B)
both A B (inl a) (inl b) = inl (a, b)
both A B (inl a) (inr other) = inr (λ e. other e.1)
both A B (inr other) b = inr (λ e. other e.0)

decided_as : (A B : Type 0) → (A → B) → (B → A) → Decided A → Decided B
decided_as A B to from (inl a) = inl (to a)
decided_as A B to from (inr other) = inr (λ b. other (from b))

same_list : {A : Type 0} → ((a b : A) → Decided (a ≡ b)) → (xs ys : List A) → Decided (xs ≡ ys)
same_list by [] [] = inl refl
same_list by [] (y ∷ ys) = inr (λ e. let never : ⊥ = cc in never)
same_list by (x ∷ xs) [] = inr (λ e. let never : ⊥ = cc in never)
same_list {A} by (x ∷ xs) (y ∷ ys) =
    decided_as ((x ≡ y) × (xs ≡ ys)) ((x ∷ xs) ≡ (y ∷ ys))
    (λ e. ap₂ (λ (first : A) (rest : List A). first ∷ rest) e.0 e.1)
    (λ e. (let first : x ≡ y = cc in first, let rest : xs ≡ ys = cc in rest))
    (both (x ≡ y) (xs ≡ ys) (by x y) (same_list by xs ys))

same_option : {A : Type 0} → ((a b : A) → Decided (a ≡ b)) → (x y : Option A) → Decided (x ≡ y)
same_option by None None = inl refl
same_option by None (Some y) = inr (λ e. let never : ⊥ = cc in never)
same_option by (Some x) None = inr (λ e. let never : ⊥ = cc in never)
same_option by (Some x) (Some y) = decided_as (x ≡ y) (Some x ≡ Some y) (λ e. ap Some e) (λ e. let same : x ≡ y = cc in same) (by x y)

same_number : (a b : ℕ) → Decided (a ≡ b)
same_number a b = elim (cases_eq a b) [
  | inl same ↦ inl same
  | inr apart ↦ inr apart
]

same_reply : (a b : HeldReply) → Decided (a ≡ b)
same_reply a b =
    decided_as ((a.number ≡ b.number) × ((a.uid ≡ b.uid) × (a.result ≡ b.result))) (a ≡ b)
    (λ e.
    ap₂ (λ (n u : ℕ). let reply : HeldReply = record { number = n; uid = u; result = a.result } in reply) e.0 e.1.0
    ∙ ap (λ (r : List ℕ). let reply : HeldReply = record { number = b.number; uid = b.uid; result = r } in reply) e.1.1)
    (λ e. (ap (λ (r : HeldReply). r.number) e, (ap (λ (r : HeldReply). r.uid) e, ap (λ (r : HeldReply). r.result) e)))
    (both (a.number ≡ b.number) ((a.uid ≡ b.uid) × (a.result ≡ b.result)) (same_number a.number b.number)
    (both (a.uid ≡ b.uid) (a.result ≡ b.result) (same_number a.uid b.uid) (same_list same_number a.result b.result)))

same_seat : (a b : Seat) → Decided (a ≡ b)
same_seat a b =
    decided_as ((a.session ≡ b.session) × ((a.owner ≡ b.owner) × ((a.principal ≡ b.principal) × (a.slots ≡ b.slots)))) (a ≡ b)
    (λ e.
    ap₂ (λ (s o : List ℕ). let seat : Seat = record { session = s; owner = o; principal = a.principal; slots = a.slots } in seat) e.0 e.1.0
    ∙ ap₂ (λ (p : ℕ) (slots : List (Option HeldReply)). let seat : Seat = record { session = b.session; owner = b.owner; principal = p; slots = slots } in seat) e.1.1.0 e.1.1.1)
    (λ e. (ap (λ (s : Seat). s.session) e, (ap (λ (s : Seat). s.owner) e, (ap (λ (s : Seat). s.principal) e, ap (λ (s : Seat). s.slots) e))))
    (both (a.session ≡ b.session) ((a.owner ≡ b.owner) × ((a.principal ≡ b.principal) × (a.slots ≡ b.slots))) (same_list same_number a.session b.session)
    (both (a.owner ≡ b.owner) ((a.principal ≡ b.principal) × (a.slots ≡ b.slots)) (same_list same_number a.owner b.owner)
    (both (a.principal ≡ b.principal) (a.slots ≡ b.slots) (same_number a.principal b.principal) (same_list (same_option same_reply) a.slots b.slots))))

pub same_seats : (a b : Seats) → (a ≡ b) ⊎ (a ≢ b)
same_seats a b = same_list (same_option same_seat) a b
