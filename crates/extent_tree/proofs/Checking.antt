-- Entries that are checked one after the other.
use Rattle.std.proofs.Common.{◌≡◌, ◌<◌, ◌≤◌, ◌+◌, ◌-◌, ◌^◌, ℕ, List, ◌∷◌, length, get_or, drop, min, sym, ap, ◌∙◌, subst}
use Rattle.std.proofs.lemmas.List.{drop_more, drop_all}
use Rattle.extent_tree.specs.declared.entry.Entry.{Entry}
use Rattle.extent_tree.specs.Entries.{IsEntry, AreEntries}

-- the entries before the i-th are some, if `left` of the `count` blocks are left there
pub record IsCheckedTo (e count left i : ℕ) (entries : List Entry) : Type 0 where
  pub forward : AreEntries e left (drop i entries) → AreEntries e count entries
  pub back : AreEntries e count entries → AreEntries e left (drop i entries)

pub IsCheckedTo-none : (e count : ℕ) (entries : List Entry) → IsCheckedTo e count count 0 entries
IsCheckedTo-none e count entries = record { forward = λ h. h; back = λ h. h }

module _ (e count left i : ℕ) (entries : List Entry) (far : IsCheckedTo e count left i entries) where
  rest_is : (entry : Entry) → i < length entries → entry ≡ get_or entries i entry → drop i entries ≡ entry ∷ drop (i + 1) entries
  rest_is entry h is = drop_more entries i entry h ∙ ap (λ (x : Entry). x ∷ drop (i + 1) entries) (sym is)

  pub IsCheckedTo-more : (entry : Entry) (less : ℕ) → i < length entries → entry ≡ get_or entries i entry → IsEntry e (min left (512 ^ e)) entry → less ≡ left - 512 ^ e → IsCheckedTo e count less (i + 1) entries
  IsCheckedTo-more entry less h is one rest = record {
    forward = λ all. far.forward (subst (AreEntries e left) (sym (rest_is entry h is)) (one, subst (λ (n : ℕ). AreEntries e n (drop (i + 1) entries)) rest all));
    back = λ all. subst (λ (n : ℕ). AreEntries e n (drop (i + 1) entries)) (sym rest) (subst (AreEntries e left) (rest_is entry h is) (far.back all)).1;
  }

  -- an entry that is none
  pub none_of : (entry : Entry) → i < length entries → entry ≡ get_or entries i entry → (IsEntry e (min left (512 ^ e)) entry → ⊥) → AreEntries e count entries → ⊥
  none_of entry h is refused all = refused (subst (AreEntries e left) (rest_is entry h is) (far.back all)).0

  pub all_of : length entries ≤ i → AreEntries e count entries
  all_of le = far.forward (subst (AreEntries e left) (sym (drop_all i entries le)) tt)
