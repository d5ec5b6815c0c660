-- Names that are read, as the records hold them.
use Rattle.std.specs.Rc.{rc_slice_items}
use Rattle.std.proofs.Common.{◌≡◌, ◌<◌, ◌≤◌, ℕ, List, None, Some, length, get_or, sym, ap, ◌∙◌, arith}
use Rattle.std.specs.Prelude.{slice_get}
use Rattle.std.proofs.lemmas.Option.{slice_get-get_or, slice_get_past}
use Rattle.model_tree.specs.Trees.Tree.{entry_of}
use Rattle.directory.specs.declared.entry.Entry.{Entry}
use Rattle.directory.specs.Records.{Record, record_of, record_from, place_of}
use Rattle.directory.proofs.Places.{entry_of-place, named_there}

pub none_found : (records : List Record) (name : List ℕ) (p : ℕ) → p ≡ place_of name records → length records ≤ p → entry_of name records ≡ None
none_found records name p is past = entry_of-place name records ∙ slice_get_past records (place_of name records) (omega arith)

-- the record of the name is the one at its place
pub found_entry : (records : List Record) (name : List ℕ) (p : ℕ) (one : Record) → p ≡ place_of name records → p < length records → ((d : Record) → get_or records p d ≡ one)
    → entry_of name records ≡ Some one
found_entry records name p one is within at =
    entry_of-place name records
    ∙ (ap (slice_get records) (sym is) ∙ (slice_get-get_or records p one within ∙ ap (λ (r : Record). Some r) (at one)))

-- and has the name
pub has_name : (records : List Record) (name : List ℕ) (p : ℕ) (d : Record) → p ≡ place_of name records → p < length records → (get_or records p d).1.name ≡ name
has_name records name p d is within = ap (λ (i : ℕ). (get_or records i d).1.name) is ∙ named_there name records d (omega arith)

pub some_found : (records : List Record) (name : List ℕ) (p : ℕ) (entry : Entry) → p ≡ place_of name records → p < length records → ((d : Record) → get_or records p d ≡ record_of entry)
    → Some (record_from entry.stamp name entry.number) ≡ entry_of name records
some_found records name p entry is within at =
    let named : (rc_slice_items entry.name) ≡ name = sym (ap (λ (r : Record). r.1.name) (at (record_of entry))) ∙ has_name records name p (record_of entry) is within in
    ap (λ (n : List ℕ). Some (record_from entry.stamp n entry.number)) (sym named) ∙ sym (found_entry records name p (record_of entry) is within at)
