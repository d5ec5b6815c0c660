-- Bytes that are appended part by part.
use Rattle.std.proofs.Common.{◌≡◌, ◌≤◌, ◌+◌, ◌-◌, ◌*◌, ◌/◌, ◌%◌, ◌++◌, ℕ, List, Option, Some, None, length, get_or, take, drop, replicate, min, Result, Ok, Err, OnOk, sym, ap, subst, ◌∙◌, arith, append_assoc, inl, inr}
use Rattle.std.proofs.lemmas.Bool.{cases_lt}
use Rattle.std.proofs.lemmas.List.{ext_get_or, take_all, take-append-le, length-append, length-take, length-drop, length-replicate, get_or-take, get_or-drop, get_or_append_left, get_or-append_right}
use Rattle.std.proofs.lemmas.List.FromFn.{length-map-range_with_len, get_or-map-range_with_len}
use Rattle.disk.specs.Moments.{Image}
use Rattle.layout.specs.CachedNodes.{CachedNode, content_at, byte_at, bytes_in}
use Rattle.layout.proofs.FileLaws.{in-block, zeros-at}
use Rattle.volume.specs.FileBlocks.{GetsMore}
use Rattle.volume.specs.FileParts.{Appends, IsBytesPrefix}

-- a part of one block: of its sector, or of a hole

pub set_part : (word : Type 0) (image : Image) (blocks : List (Option ℕ)) (block sector from count : ℕ) (content old new : List ℕ) → get_or blocks block None ≡ Some sector
    → (word → content ≡ image sector) → length content ≡ 4096 → from + count ≤ 4096 → new ≡ old ++ take count (drop from content)
    → Appends word image blocks (4096 * block + from) count old new
set_part word image blocks block sector from count content old new is_set same whole room is = record {
  part = take count (drop from content);
  is = is;
  many = omega (arith, length-take count (drop from content), length-drop from content);
  bytes = λ w k less.
      let here : (4096 * block + from + k) / 4096 ≡ block = omega arith in
      let rest : (4096 * block + from + k) % 4096 ≡ from + k = omega arith in
      get_or-take count (drop from content) k 0 (omega arith) ∙ get_or-drop from content k 0
      ∙ ap (λ (s : List ℕ). get_or s (from + k) 0) (same w)
      ∙ sym (in-block image blocks block (4096 * block + from + k) here ∙ ap (λ (b : Option ℕ). get_or (content_at image b) ((4096 * block + from + k) % 4096) 0) is_set
      ∙ ap (λ (r : ℕ). get_or (image sector) r 0) rest);
}

pub hole_part : (word : Type 0) (image : Image) (blocks : List (Option ℕ)) (block from count : ℕ) (old new : List ℕ) → get_or blocks block None ≡ None → from + count ≤ 4096 → new ≡ old ++ replicate count 0
    → Appends word image blocks (4096 * block + from) count old new
hole_part word image blocks block from count old new hole room is = record {
  part = replicate count 0;
  is = is;
  many = length-replicate {A = ℕ} count 0;
  bytes = λ w k less.
      let here : (4096 * block + from + k) / 4096 ≡ block = omega arith in
      zeros-at count k
      ∙ sym (in-block image blocks block (4096 * block + from + k) here ∙ ap (λ (b : Option ℕ). get_or (content_at image b) ((4096 * block + from + k) % 4096) 0) hole);
}

-- what a list is that was filled up with zeros
pub filled : (old new : List ℕ) (n len count : ℕ) → len ≡ length old → n ≡ len + count → new ≡ take n old ++ replicate (n - len) 0 → new ≡ old ++ replicate count 0
filled old new n len count len_is n_is is =
    let more : n - len ≡ count = omega arith in
    is ∙ ap (λ (s : List ℕ). s ++ replicate {A = ℕ} (n - len) 0) (take_all n old (omega arith)) ∙ ap (λ (m : ℕ). old ++ replicate {A = ℕ} m 0) more

-- a part after a part

pub part_on : (word : Type 0) (image : Image) (blocks : List (Option ℕ)) (offset done at more : ℕ) (old mid new : List ℕ) → at ≡ offset + done → Appends word image blocks offset done old mid
    → Appends word image blocks at more mid new → Appends word image blocks offset (done + more) old new
part_on word image blocks offset done at more old mid new at_is first second = record {
  part = first.part ++ second.part;
  is = second.is ∙ ap (λ (s : List ℕ). s ++ second.part) first.is ∙ append_assoc old first.part second.part;
  many = omega (arith, length-append first.part second.part, first.many, second.many);
  bytes = λ w k less. elim (cases_lt k done) [
    | inl low ↦ get_or_append_left first.part second.part 0 k (omega (arith, first.many)) ∙ first.bytes w k low
    | inr high ↦
        let there : at + (k - done) ≡ offset + k = omega arith in
        get_or-append_right first.part second.part done k 0 first.many high ∙ second.bytes w (k - done) (omega arith) ∙ ap (byte_at image blocks) there
  ];
}

-- the old bytes come first, and how many come after them

pub prefix_is : (old part new : List ℕ) → new ≡ old ++ part → IsBytesPrefix old new
prefix_is old part new is = ap (take (length old)) is ∙ take-append-le (length old) old part (omega arith) ∙ take_all (length old) old (omega arith)

pub gets_more : (word : Type 0) (image : Image) (blocks : List (Option ℕ)) (offset count : ℕ) (old new : List ℕ) → Appends word image blocks offset count old new → GetsMore old new count
gets_more word image blocks offset count old new appends = record {
  prefix = prefix_is old appends.part new appends.is;
  count_is = ap length appends.is ∙ omega (arith, length-append old appends.part, appends.many);
}

-- all parts are the bytes of the file from a place on

pub whole_part : (word : Type 0) (image : Image) (blocks : List (Option ℕ)) (size offset len : ℕ) (old new : List ℕ) → Appends word image blocks offset (min len (size - offset)) old new
    → word → new ≡ old ++ take len (drop offset (bytes_in image blocks size))
unfolding bytes_in
whole_part word image blocks size offset len old new appends w =
    let all : List ℕ = bytes_in image blocks size in
    let long : length all ≡ size = length-map-range_with_len (byte_at image blocks) 0 size in
    let many = appends.many in
    let same : appends.part ≡ take len (drop offset all) =
    ext_get_or 0 appends.part (take len (drop offset all)) (omega (arith, length-take len (drop offset all), length-drop offset all))
    (λ k less. appends.bytes w k (omega arith)
    ∙ sym (get_or-take len (drop offset all) k 0 (omega arith) ∙ get_or-drop offset all k 0 ∙ get_or-map-range_with_len (byte_at image blocks) 0 size (offset + k) (offset + k) 0 (omega arith) (omega arith))) in
    appends.is ∙ ap (λ (s : List ℕ). old ++ s) same

-- of a cached node as it is seen, after room was made

pub read_whole : (word : Type 0) (image : Image) (inside cached : CachedNode) (offset len count : ℕ) (old mid new : List ℕ) → inside ≡ cached → mid ≡ old → count ≡ min len (inside.fields.size - offset)
    → Appends word image inside.blocks offset count mid new → word → new ≡ old ++ take len (drop offset (bytes_in image cached.blocks cached.fields.size))
read_whole word image inside cached offset len count old mid new seen same count_is appends w =
    whole_part word image inside.blocks inside.fields.size offset len mid new (subst (λ (n : ℕ). Appends word image inside.blocks offset n mid new) count_is appends) w
    ∙ ap (λ (x : CachedNode). mid ++ take len (drop offset (bytes_in image x.blocks x.fields.size)))
    seen
    ∙ ap (λ (s : List ℕ). s ++ take len (drop offset (bytes_in image cached.blocks cached.fields.size))) same

pub read_more : (word : Type 0) (image : Image) (inside cached : CachedNode) (offset len count : ℕ) (old mid new : List ℕ) → inside ≡ cached → mid ≡ old → count ≡ min len (inside.fields.size - offset)
    → Appends word image inside.blocks offset count mid new → GetsMore old new (min len (cached.fields.size - offset))
read_more word image inside cached offset len count old mid new seen same count_is appends =
    let whole : count ≡ min len (cached.fields.size - offset) = count_is ∙ ap (λ (x : CachedNode). min len (x.fields.size - offset)) seen in
    subst (λ (n : ℕ). GetsMore old new n) whole (subst (λ (s : List ℕ). GetsMore s new count) same (gets_more word image inside.blocks offset count mid new appends))

pub on_ok : {A E P Q : Type 0} (r : Result A E) → OnOk r P → (P → Q) → OnOk r Q
on_ok (Ok x) is f = f is
on_ok (Err e) is f = tt
