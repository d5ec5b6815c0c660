-- Each node except the root has one name: what a check compares.
use Rattle.std.proofs.Common.{◌≡◌, ◌≢◌, ◌<◌, ◌+◌, ◌/◌, ◌%◌, ℕ, suc, Bool, true, false, List, [], ◌∷◌, Option, Some, None, length, get_or, refl, sym, ap, ◌∙◌, arith, inl, inr, eqb, eq-eqb, ne_eqb}
use Rattle.std.specs.Prelude.{All, not, ◌&&◌, is_some}
use Rattle.std.proofs.lemmas.Bool.{cases_eq, cases_lt}
use Rattle.std.proofs.lemmas.List.{get_or_past}
use Rattle.std.proofs.lemmas.List.FromFn.{length-map-range_with_len, get_or-map-range_with_len}
use Rattle.disk.specs.Moments.{Image}
use Rattle.model_tree.specs.Trees.Keyed.{with, is_key}
use Rattle.model_tree.specs.Trees.Tree.{root}
use Rattle.model_tree.specs.Trees.WellFormed.{links_owed, one_if}
use Rattle.model_tree.proofs.Trees.KeyedLaws.{at-with_same, at-with_other}
use Rattle.layout.specs.CachedNodes.{CachedNode, tree_of, node_of, content_at, byte_at, bytes_in}
use Rattle.layout.specs.Known.{AreCached}
use Rattle.layout.specs.Laid.{AreNumbered}
use Rattle.layout.specs.SumLaws.{other_numbers, Links, EachLink, BytesFit}
use Rattle.layout.specs.Marks.{times}
use Rattle.layout.proofs.Changing.{tree-lacks}
use Rattle.layout.proofs.Knowing.{laid_are_cached_nodes}
use Rattle.layout.proofs.Summing.{links-sum}

abbrev owed_if : Bool → ℕ → ℕ
owed_if is n = one_if (is && not (eqb n root))

owed_root : (is : Bool) (n : ℕ) → n ≡ root → owed_if is n ≡ 0
owed_root true n e = ap (λ (b : Bool). one_if (not b)) (eq-eqb n root e)
owed_root false n e = refl

owed_other : (n : ℕ) → n ≢ root → owed_if true n ≡ 1
owed_other n off = ap (λ (b : Bool). one_if (not b)) (ne_eqb n root off)

times-here : (n m : ℕ) (xs : List ℕ) → n ≡ m → times n (m ∷ xs) ≡ 1 + times n xs
times-here n m xs e = rw (eq-eqb n m e) refl

times-there : (n m : ℕ) (xs : List ℕ) → n ≢ m → times n (m ∷ xs) ≡ times n xs
times-there n m xs off = rw (ne_eqb n m off) (omega arith)

key_of-with : (image : Image) (one : CachedNode) (cached_nodes : List (Option CachedNode)) (n : ℕ) → n ≡ one.fields.number → is_key n (tree_of image (Some one ∷ cached_nodes)) ≡ true
key_of-with image one cached_nodes n e =
    ap (λ (k : ℕ). is_key k (with (tree_of image cached_nodes) one.fields.number (node_of image one))) e ∙ ap is_some (at-with_same (tree_of image cached_nodes) one.fields.number (node_of image one))

key_of-other : (image : Image) (one : CachedNode) (cached_nodes : List (Option CachedNode)) (n : ℕ) → n ≢ one.fields.number → is_key n (tree_of image (Some one ∷ cached_nodes)) ≡ is_key n (tree_of image cached_nodes)
key_of-other image one cached_nodes n off = ap is_some (at-with_other (tree_of image cached_nodes) one.fields.number n (node_of image one) off)

owed-times : (image : Image) (cached_nodes : List (Option CachedNode)) (n : ℕ) → AreNumbered cached_nodes → links_owed (tree_of image cached_nodes) n ≡ times n (other_numbers cached_nodes)
owed-times image [] n apart = refl
owed-times image (None ∷ cached_nodes) n apart = owed-times image cached_nodes n (λ i j x y off. apart (suc i) (suc j) x y (omega arith))
owed-times image (Some one ∷ cached_nodes) n apart =
    let rest = owed-times image cached_nodes n (λ i j x y off. apart (suc i) (suc j) x y (omega arith)) in
    elim (cases_eq n one.fields.number) [
      | inl here ↦
          let key = key_of-with image one cached_nodes n here in
          let gone : is_key n (tree_of image cached_nodes) ≡ false = ap is_some (tree-lacks image cached_nodes n (λ i cached e f. apart (suc i) 0 cached one (omega arith) e refl (f ∙ here))) in
          let none : times n (other_numbers cached_nodes) ≡ 0 = sym rest ∙ ap (λ (b : Bool). owed_if b n) gone in
          elim (cases_eq one.fields.number root) [
            | inl is ↦ rw (eq-eqb one.fields.number root is) (owed_root (is_key n (tree_of image (Some one ∷ cached_nodes))) n (here ∙ is) ∙ sym none)
            | inr off ↦ rw (ne_eqb one.fields.number root off) (ap (λ (b : Bool). owed_if b n) key ∙ owed_other n (λ e. off (sym here ∙ e)) ∙ sym (times-here n one.fields.number (other_numbers cached_nodes) here ∙ omega (arith, none)))
          ]
      | inr away ↦
          let key = ap (λ (b : Bool). owed_if b n) (key_of-other image one cached_nodes n away) in
          elim (cases_eq one.fields.number root) [
            | inl is ↦ rw (eq-eqb one.fields.number root is) (key ∙ rest)
            | inr off ↦ rw (ne_eqb one.fields.number root off) (key ∙ rest ∙ sym (times-there n one.fields.number (other_numbers cached_nodes) away))
          ]
    ]

pub known_link : (nodes : ℕ) (mark : ℕ → ℕ) (cached_nodes : List (Option CachedNode)) → AreCached nodes mark cached_nodes → (image : Image) (number : ℕ) → Links image cached_nodes number
known_link nodes mark cached_nodes known image number =
    record { to = links-sum nodes mark cached_nodes known image number; owed = owed-times image cached_nodes number known.apart }

pub each_link : EachLink
each_link nodes image mark cached_nodes laid = known_link nodes mark cached_nodes (laid_are_cached_nodes nodes image mark cached_nodes laid) image

byte-fits : (image : Image) (block : Option ℕ) (j : ℕ) → ((n : ℕ) → All (λ byte. byte < 256) (image n)) → get_or (content_at image block) j 0 < 256
byte-fits image None j fits = omega arith
byte-fits image (Some n) j fits = elim (cases_lt j (length (image n))) [
  | inl low ↦ fits n j 0 low
  | inr high ↦ omega (arith, get_or_past (image n) j 0 high)
]

byte_at-fits : (image : Image) (blocks : List (Option ℕ)) (k : ℕ) → ((n : ℕ) → All (λ byte. byte < 256) (image n)) → byte_at image blocks k < 256
unfolding byte_at
byte_at-fits image blocks k fits = byte-fits image (get_or blocks (k / 4096) None) (k % 4096) fits

pub bytes_fit : BytesFit
unfolding bytes_in
bytes_fit image blocks size fits k d h =
    let low : k < size = omega (arith, length-map-range_with_len (byte_at image blocks) 0 size) in
    omega (arith, get_or-map-range_with_len (byte_at image blocks) 0 size k k d low (omega arith), byte_at-fits image blocks k fits)
