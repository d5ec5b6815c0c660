-- How long the values of a node's attributes are.
use Rattle.std.proofs.Common.{◌≡◌, ℕ, suc, ◌+◌, ◌/◌, ◌%◌, List, [], ◌∷◌, ◌++◌, ◌<◌, length, take, get_or, refl, sym, ap, ◌∙◌, arith}
use Rattle.std.specs.Prelude.{map}
use Rattle.std.specs.Int.{w32, w64}
use Rattle.std.specs.List.{flat_map}
use Rattle.std.proofs.lemmas.Grind.{flat_map-append}
use Rattle.std.proofs.lemmas.List.{append-nil, length-append, take_more}
use Rattle.xdr.specs.Grammar.{number}
use Rattle.xdr.specs.Forms.{counted, elements}
use Rattle.xdr.proofs.Sizes.{counted_length, elements_length}
use Rattle.xdr.proofs.Numbers.{length-number_32, length-number_64}
use Rattle.model_tree.specs.declared.acl.Ace.{Ace}
use Rattle.model_tree.specs.declared.node.NodeKind.{NodeKind}
use Rattle.model_tree.specs.declared.node.NodeKind.TheVariants as kind
use Rattle.model.specs.Attributes.AclText.{entry_text, who_text, kind_number, entry_flags}
use Rattle.model.specs.Attributes.AttributeValue.{acl_entry, file_system_id, node_kind, time}
use Rattle.model.specs.Attributes.NodeAttributes.{supported_bitmap, time_of}
use Rattle.model_tree.specs.Trees.Stamp.{filehandle_of}

-- how long texts are, one more
pub length_more : {A : Type 0} (text : A → List ℕ) (xs : List A) (i : ℕ) (x : A) → i < length xs → x ≡ get_or xs i x
    → length (flat_map text (take (i + 1) xs)) ≡ length (flat_map text (take i xs)) + length (text x)
length_more {A = A} text xs i x lt is =
    let more : take (i + 1) xs ≡ take i xs ++ x ∷ [] = take_more xs i x lt ∙ ap (λ (y : A). take i xs ++ y ∷ []) (sym is) in
    let prefix = flat_map text (take i xs) in
    ap (λ (ys : List A). length (flat_map text ys)) more
    ∙ (ap length (flat_map-append text (take i xs) (x ∷ []))
    ∙ (length-append prefix (text x ++ []) ∙ ap (λ (t : List ℕ). length prefix + length t) (append-nil (text x))))

-- an entry, and the entries of a list one after the other

abbrev pub ace_text : Ace → List ℕ
ace_text ace = acl_entry.encoding (entry_text ace)

pub entry_length : (ace : Ace) (n : ℕ) → n ≡ length (counted (who_text ace.who)) → 12 + n ≡ length (ace_text ace)
entry_length ace n is =
    let kind = number w32 (kind_number ace.kind) in
    let flags = number w32 (entry_flags ace.flags.0 ace.who) in
    let mask = number w32 ace.mask.0 in
    let name = counted (who_text ace.who) in
    omega (
      arith,
      is,
      length-append kind (flags ++ (mask ++ name)),
      length-append flags (mask ++ name),
      length-append mask name,
      length-number_32 (kind_number ace.kind),
      length-number_32 (entry_flags ace.flags.0 ace.who),
      length-number_32 ace.mask.0,
    )

each_text : (acl : List Ace) → flat_map acl_entry.encoding (map entry_text acl) ≡ flat_map ace_text acl
each_text [] = refl
each_text (ace ∷ acl) = ap (λ (t : List ℕ). ace_text ace ++ t) (each_text acl)

count : (acl : List Ace) → length (map entry_text acl) ≡ length acl
count [] = refl
count (ace ∷ acl) = ap suc (count acl)

pub list_text : (acl : List Ace) → elements acl_entry.encoding (map entry_text acl) ≡ number w32 (length acl) ++ flat_map ace_text acl
unfolding elements
list_text acl = rw (each_text acl, count acl) refl

pub list_length : (acl : List Ace) (n : ℕ) → n ≡ length (flat_map ace_text acl) → 4 + n ≡ length (elements acl_entry.encoding (map entry_text acl))
list_length acl n is =
    omega (arith, is, ap length (list_text acl), length-append (number w32 (length acl)) (flat_map ace_text acl), length-number_32 (length acl))

-- values of one length

pub bitmap_length : length (elements (λ n. number w32 n) supported_bitmap) ≡ 16
bitmap_length = elements_length supported_bitmap

pub fsid_length : length (file_system_id.encoding (record { major = 1; minor = 0 })) ≡ 16
fsid_length = omega (arith, length-append (number w64 1) (number w64 0), length-number_64 1, length-number_64 0)

pub time_length : (moment : ℕ) → length (time.encoding (time_of moment)) ≡ 12
time_length moment =
    let seconds = number w64 (moment / 1000000000) in
    let nanoseconds = number w32 (moment % 1000000000) in
    omega (arith, length-append seconds nanoseconds, length-number_64 (moment / 1000000000), length-number_32 (moment % 1000000000))

pub handle_length : (n : ℕ) → length (counted (filehandle_of n)) ≡ 12
handle_length n =
    let eight : length (filehandle_of n) ≡ 8 = refl in
    omega (arith, counted_length (filehandle_of n), eight)

pub kind_length : (of : NodeKind) → length (node_kind.encoding of) ≡ 4
kind_length kind.File = ap (length {A = ℕ}) (append-nil (number w32 1)) ∙ length-number_32 1
kind_length kind.Directory = ap (length {A = ℕ}) (append-nil (number w32 2)) ∙ length-number_32 2

pub none_length : length (elements (λ n. number w32 n) []) ≡ 4
none_length = elements_length []
