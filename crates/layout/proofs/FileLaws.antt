-- A file's bytes, and the effects of changes of its blocks on them.
use Rattle.std.proofs.Common.{◌≡◌, ◌≢◌, ◌≤◌, ◌<◌, ◌+◌, ◌-◌, ◌*◌, ◌/◌, ◌%◌, ℕ, List, ◌++◌, Option, Some, None, length, get_or, set, take, drop, max, replicate, refl, sym, ap, ap₂, ◌∙◌, arith, append_assoc, inl, inr, lt-ltb, le-ltb, ltb, if◌then◌else◌}
use Rattle.std.proofs.lemmas.Bool.{cases_eq, cases_lt}
use Rattle.std.proofs.lemmas.List.{append-nil, length-append, length-replicate, length-take, length-drop, get_or_append_left, get_or-append_right, get_or-take, get_or-drop, get_or-replicate, get_or_past, get_or-set_same, get_or-set_other, get_or_default}
use Rattle.std.proofs.lemmas.List.FromFn.{fill_by_all, get_or-map-range_with_len}
use Rattle.disk.specs.Moments.{Image}
use Rattle.disk.specs.Calls.{zero_sector}
use Rattle.extents.specs.Runs.{with_holes}
use Rattle.sector.specs.Placed.{placed}
use Rattle.layout.specs.CachedNodes.{content_at, byte_at, bytes_in}
use Rattle.layout.specs.Files.{over, below, CutsBlocks, Filling, Writing, WritingOn, Cutting, Growing, HoldBytes, FilledBytes, WrittenBytes, ResizedBytes, GrownBytes}
use Rattle.model_tree.specs.Trees.Edit.{overwritten, resized}
use Rattle.model_tree.proofs.Trees.NodeChangeLaws.{length-resized}

-- ---- bytes by their places

module _ (byte : ℕ → ℕ) (offset : ℕ) (part : List ℕ) (k : ℕ) where
  pub over-prefix : k < offset → over byte offset part k ≡ byte k
  unfolding over
  over-prefix h = rw (lt-ltb k offset h) refl

  over-back : offset ≤ k → over byte offset part k ≡ get_or part (k - offset) (byte k)
  unfolding over
  over-back h = rw (le-ltb k offset h) refl

  pub over-part : offset ≤ k → k < offset + length part → over byte offset part k ≡ get_or part (k - offset) 0
  over-part h l = over-back h ∙ get_or_default part (k - offset) (byte k) 0 (omega arith)

  pub over-past : offset + length part ≤ k → over byte offset part k ≡ byte k
  over-past h = over-back (omega arith) ∙ get_or_past part (k - offset) (byte k) (omega arith)

module _ (byte : ℕ → ℕ) (size k : ℕ) where
  pub below-prefix : k < size → below byte size k ≡ byte k
  unfolding below
  below-prefix h = rw (lt-ltb k size h) refl

  pub below-past : size ≤ k → below byte size k ≡ 0
  unfolding below
  below-past h = rw (le-ltb k size h) refl

below-moved : (f g : ℕ → ℕ) (size c j k : ℕ) → k ≡ c + j → f j ≡ g k → below f (size - c) j ≡ below g size k
below-moved f g size c j k is same = elim (cases_lt k size) [
  | inl low ↦ below-prefix f (size - c) j (omega arith) ∙ same ∙ sym (below-prefix g size k low)
  | inr high ↦ below-past f (size - c) j (omega arith) ∙ sym (below-past g size k high)
]

-- the same bytes after `c` others
over-moved : (f g : ℕ → ℕ) (offset from c : ℕ) (part : List ℕ) (k j : ℕ) → offset ≡ c + from → k ≡ c + j → f k ≡ g j → over f offset part k ≡ over g from part j
over-moved f g offset from c part k j at is same = elim (cases_lt j from) [
  | inl low ↦ over-prefix f offset part k (omega arith) ∙ same ∙ sym (over-prefix g from part j low)
  | inr high ↦
      let e : k - offset ≡ j - from = omega arith in
      over-back f offset part k (omega arith) ∙ ap₂ (get_or part) e same ∙ sym (over-back g from part j high)
]

-- ---- lists of bytes

pub zeros-at : (n k : ℕ) → get_or (replicate {A = ℕ} n 0) k 0 ≡ 0
zeros-at n k = elim (cases_lt k n) [
  | inl low ↦ get_or-replicate n k 0 0 low
  | inr high ↦ get_or_past (replicate n 0) k 0 (omega (arith, length-replicate {A = ℕ} n 0))
]

pub zero_sector-at : (k : ℕ) → get_or zero_sector k 0 ≡ 0
unfolding zero_sector
zero_sector-at k = zeros-at 4096 k

pub resized-at : (bytes : List ℕ) (size k : ℕ) → get_or (resized bytes size) k 0 ≡ below (λ j. get_or bytes j 0) size k
resized-at bytes size k =
    let zeros : List ℕ = replicate (size - length bytes) 0 in
    elim (cases_lt k size) [
      | inl low ↦ elim (cases_lt k (length bytes)) [
        | inl there ↦ get_or_append_left (take size bytes) zeros 0 k (omega (arith, length-take size bytes))
            ∙ get_or-take size bytes k 0 low ∙ sym (below-prefix (λ j. get_or bytes j 0) size k low)
        | inr past ↦ get_or-append_right (take size bytes) zeros (length bytes) k 0 (omega (arith, length-take size bytes)) past
            ∙ zeros-at (size - length bytes) (k - length bytes)
            ∙ sym (below-prefix (λ j. get_or bytes j 0) size k low ∙ get_or_past bytes k 0 past)
      ]
      | inr high ↦ get_or_past (resized bytes size) k 0 (omega (arith, length-resized bytes size))
          ∙ sym (below-past (λ j. get_or bytes j 0) size k high)
    ]

pub length-overwritten : (bytes : List ℕ) (offset : ℕ) (part : List ℕ) → length (overwritten bytes offset part) ≡ max (length bytes) (offset + length part)
length-overwritten bytes offset part =
    let rest : List ℕ = drop (offset + length part) bytes in
    omega (arith, length-append (resized bytes offset) (part ++ rest), length-append part rest, length-resized bytes offset, length-drop (offset + length part) bytes)

pub overwritten-at : (bytes : List ℕ) (offset : ℕ) (part : List ℕ) (k : ℕ) → get_or (overwritten bytes offset part) k 0 ≡ over (λ j. get_or bytes j 0) offset part k
overwritten-at bytes offset part k =
    let byte : ℕ → ℕ = λ j. get_or bytes j 0 in
    let rest : List ℕ = drop (offset + length part) bytes in
    let long : length (resized bytes offset) ≡ offset = length-resized bytes offset in
    elim (cases_lt k offset) [
      | inl first ↦ get_or_append_left (resized bytes offset) (part ++ rest) 0 k (omega arith) ∙ resized-at bytes offset k
          ∙ below-prefix byte offset k first ∙ sym (over-prefix byte offset part k first)
      | inr second ↦ get_or-append_right (resized bytes offset) (part ++ rest) offset k 0 long second
          ∙ elim (cases_lt (k - offset) (length part)) [
            | inl low ↦ get_or_append_left part rest 0 (k - offset) low ∙ sym (over-part byte offset part k second (omega arith))
            | inr high ↦
                let e : offset + length part + (k - offset - length part) ≡ k = omega arith in
                get_or-append_right part rest (length part) (k - offset) 0 refl high
                ∙ get_or-drop (offset + length part) bytes (k - offset - length part) 0 ∙ ap (λ (i : ℕ). get_or bytes i 0) e
                ∙ sym (over-past byte offset part k (omega arith))
          ]
    ]

-- a list that grows keeps its bytes
pub grown-at : (bytes : List ℕ) (size k : ℕ) → length bytes ≤ size → get_or (resized bytes size) k 0 ≡ get_or bytes k 0
grown-at bytes size k h = resized-at bytes size k ∙ elim (cases_lt k size) [
  | inl low ↦ below-prefix (λ j. get_or bytes j 0) size k low
  | inr high ↦ below-past (λ j. get_or bytes j 0) size k high ∙ sym (get_or_past bytes k 0 (omega arith))
]

placed-is : (bytes : List ℕ) (at : ℕ) (part : List ℕ) → at ≤ length bytes → placed bytes at part ≡ overwritten bytes at part
placed-is bytes at part h =
    let none : at - length bytes ≡ 0 = omega arith in
    let whole : take at bytes ≡ resized bytes at = rw none (sym (append-nil (take at bytes))) in
    append_assoc (take at bytes) part (drop (at + length part) bytes) ∙ ap (λ (s : List ℕ). s ++ (part ++ drop (at + length part) bytes)) whole

pub placed-at : (bytes : List ℕ) (at : ℕ) (part : List ℕ) (k : ℕ) → at + length part ≤ length bytes → get_or (placed bytes at part) k 0 ≡ over (λ j. get_or bytes j 0) at part k
placed-at bytes at part k fits =
    let same : placed bytes at part ≡ overwritten bytes at part = placed-is bytes at part (omega arith) in
    ap (λ (s : List ℕ). get_or s k 0) same ∙ overwritten-at bytes at part k

-- ---- what a list and a file of the same bytes have

in-at : (image : Image) (blocks : List (Option ℕ)) (size k : ℕ) → k < size → get_or (bytes_in image blocks size) k 0 ≡ byte_at image blocks k
unfolding bytes_in
in-at image blocks size k h = get_or-map-range_with_len (byte_at image blocks) 0 size k k 0 h (omega arith)

list-at : (image : Image) (blocks : List (Option ℕ)) (bytes : List ℕ) → HoldBytes image blocks bytes → (k : ℕ) → get_or bytes k 0 ≡ byte_at image blocks k
list-at image blocks bytes hold k = elim (cases_lt k (length bytes)) [
  | inl low ↦ ap (λ (s : List ℕ). get_or s k 0) (sym hold.bytes_are) ∙ in-at image blocks (length bytes) k low
  | inr high ↦ get_or_past bytes k 0 high ∙ sym (hold.tail k high)
]

-- a list with these bytes is the file's
hold-bytes : (image : Image) (blocks : List (Option ℕ)) (bytes : List ℕ) → ((k : ℕ) → byte_at image blocks k ≡ get_or bytes k 0) → HoldBytes image blocks bytes
unfolding bytes_in
hold-bytes image blocks bytes same = record {
  bytes_are = sym (fill_by_all (byte_at image blocks) bytes (length bytes) 0 refl (λ k h. sym (same k)));
  tail = λ k h. same k ∙ get_or_past bytes k 0 h;
}

pub over-same : (f g : ℕ → ℕ) (offset : ℕ) (part : List ℕ) (k : ℕ) → f k ≡ g k → over f offset part k ≡ over g offset part k
unfolding over
over-same f g offset part k same = ap (λ (b : ℕ). if ltb k offset then b else get_or part (k - offset) b) same

below-same : (f g : ℕ → ℕ) (size k : ℕ) → f k ≡ g k → below f size k ≡ below g size k
unfolding below
below-same f g size k same = ap (λ (b : ℕ). if ltb k size then b else 0) same

pub filled-bytes : FilledBytes
filled-bytes old new was is bytes hold same = hold-bytes new is bytes (λ k. same k ∙ sym (list-at old was bytes hold k))

pub written-bytes : WrittenBytes
written-bytes old new was is bytes offset part hold same =
    hold-bytes new is (overwritten bytes offset part) (λ k. same k ∙ over-same (byte_at old was) (λ j. get_or bytes j 0) offset part k (sym (list-at old was bytes hold k)) ∙ sym (overwritten-at bytes offset part k))

pub resized-bytes : ResizedBytes
resized-bytes old new was is bytes size hold same =
    hold-bytes new is (resized bytes size) (λ k. same k ∙ below-same (byte_at old was) (λ j. get_or bytes j 0) size k (sym (list-at old was bytes hold k)) ∙ sym (resized-at bytes size k))

pub grown-bytes : GrownBytes
grown-bytes old new was is bytes size hold fits same =
    resized-bytes old new was is bytes size hold (λ k. same k ∙ elim (cases_lt k size) [
      | inl low ↦ sym (below-prefix (byte_at old was) size k low)
      | inr high ↦ hold.tail k (omega arith) ∙ sym (below-past (byte_at old was) size k high)
    ])

-- ---- the effects of changes of blocks on the bytes

-- a byte by its block
pub in-block : (image : Image) (blocks : List (Option ℕ)) (i k : ℕ) → k / 4096 ≡ i → byte_at image blocks k ≡ get_or (content_at image (get_or blocks i None)) (k % 4096) 0
unfolding byte_at
in-block image blocks i k is = ap (λ (j : ℕ). get_or (content_at image (get_or blocks j None)) (k % 4096) 0) is

pub filling : Filling
filling old new blocks block sector fills k = elim (cases_eq (k / 4096) block) [
  | inl here ↦
      in-block new (set blocks block (Some sector)) block k here
      ∙ ap (λ (b : Option ℕ). get_or (content_at new b) (k % 4096) 0) (get_or-set_same blocks block (Some sector) None fills.within)
      ∙ ap (λ (s : List ℕ). get_or s (k % 4096) 0) fills.zeros ∙ zero_sector-at (k % 4096)
      ∙ sym (in-block old blocks block k here ∙ ap (λ (b : Option ℕ). get_or (content_at old b) (k % 4096) 0) fills.hole)
  | inr there ↦
      in-block new (set blocks block (Some sector)) (k / 4096) k refl
      ∙ ap (λ (b : Option ℕ). get_or (content_at new b) (k % 4096) 0) (get_or-set_other blocks block (k / 4096) (Some sector) None there)
      ∙ ap (λ (s : List ℕ). get_or s (k % 4096) 0) (fills.others (k / 4096) there) ∙ sym (in-block old blocks (k / 4096) k refl)
]

-- what is written within one block changes no byte of another
elsewhere : (byte : ℕ → ℕ) (offset : ℕ) (part : List ℕ) (k block from : ℕ) → offset ≡ 4096 * block + from → from + length part ≤ 4096 → k / 4096 ≢ block → over byte offset part k ≡ byte k
elsewhere byte offset part k block from is within apart = elim (cases_lt k offset) [
  | inl low ↦ over-prefix byte offset part k low
  | inr high ↦ over-past byte offset part k (omega arith)
]

pub writing : Writing
writing old new blocks block sector from part writes k = elim (cases_eq (k / 4096) block) [
  | inl here ↦
      let was : byte_at old blocks k ≡ get_or (old sector) (k % 4096) 0 = in-block old blocks block k here ∙ ap (λ (b : Option ℕ). get_or (content_at old b) (k % 4096) 0) writes.is_set in
      in-block new blocks block k here ∙ ap (λ (b : Option ℕ). get_or (content_at new b) (k % 4096) 0) writes.is_set
      ∙ ap (λ (s : List ℕ). get_or s (k % 4096) 0) writes.written ∙ placed-at (old sector) from part (k % 4096) (omega (arith, writes.whole, writes.within))
      ∙ sym (over-moved (byte_at old blocks) (λ j. get_or (old sector) j 0) (4096 * block + from) from (4096 * block) part k (k % 4096) refl (omega arith) was)
  | inr there ↦
      in-block new blocks (k / 4096) k refl ∙ ap (λ (s : List ℕ). get_or s (k % 4096) 0) (writes.others (k / 4096) there) ∙ sym (in-block old blocks (k / 4096) k refl)
      ∙ sym (elsewhere (byte_at old blocks) (4096 * block + from) part k block from refl writes.within there)
]

pub writing_on : WritingOn
writing_on byte offset prefix part k = elim (cases_lt k (offset + length prefix)) [
  | inl low ↦ over-prefix (over byte offset prefix) (offset + length prefix) part k low ∙ elim (cases_lt k offset) [
    | inl first ↦ over-prefix byte offset prefix k first ∙ sym (over-prefix byte offset (prefix ++ part) k first)
    | inr second ↦ over-part byte offset prefix k second low ∙ sym (over-part byte offset (prefix ++ part) k second (omega (arith, length-append prefix part)) ∙ get_or_append_left prefix part 0 (k - offset) (omega arith))
  ]
  | inr high ↦
      let e : k - offset - length prefix ≡ k - (offset + length prefix) = omega arith in
      over-back (over byte offset prefix) (offset + length prefix) part k high
      ∙ ap (get_or part (k - (offset + length prefix))) (over-past byte offset prefix k high)
      ∙ sym (over-back byte offset (prefix ++ part) k (omega arith) ∙ get_or-append_right prefix part (length prefix) (k - offset) (byte k) refl (omega arith) ∙ ap (λ (i : ℕ). get_or part i (byte k)) e)
]

-- byte j of block i of what stays
cut-at : (old new : Image) (blocks : List (Option ℕ)) (count size : ℕ) → CutsBlocks old new blocks count size → (k i j : ℕ) → k ≡ 4096 * i + j → j < 4096
    → get_or (content_at new (get_or (take count blocks) i None)) j 0 ≡ below (byte_at old blocks) size k
cut-at old new blocks count size cuts k i j is few =
    let here : k / 4096 ≡ i = omega arith in
    let rest : k % 4096 ≡ j = omega arith in
    let was : byte_at old blocks k ≡ get_or (content_at old (get_or blocks i None)) j 0 = in-block old blocks i k here ∙ ap (λ (r : ℕ). get_or (content_at old (get_or blocks i None)) r 0) rest in
    elim (cases_lt i count) [
      | inl low ↦ ap (λ (b : Option ℕ). get_or (content_at new b) j 0) (get_or-take count blocks i None low) ∙ elim (cases_lt (i + 1) count) [
        | inl first ↦ ap (λ (s : List ℕ). get_or s j 0) (cuts.prefix i first) ∙ sym was ∙ sym (below-prefix (byte_at old blocks) size k (omega (arith, cuts.down)))
        | inr second ↦ cuts.last i j (omega arith) few ∙ below-moved (λ r. get_or (content_at old (get_or blocks i None)) r 0) (byte_at old blocks) size (4096 * i) j k is (sym was)
      ]
      | inr high ↦
          let gone : get_or (take count blocks) i None ≡ None = get_or_past (take count blocks) i None (omega (arith, length-take count blocks)) in
          ap (λ (b : Option ℕ). get_or (content_at new b) j 0) gone ∙ sym (below-past (byte_at old blocks) size k (omega (arith, cuts.up)))
    ]

pub cutting : Cutting
cutting old new blocks count size cuts k = in-block new (take count blocks) (k / 4096) k refl ∙ cut-at old new blocks count size cuts k (k / 4096) (k % 4096) (omega arith) (omega arith)

none-at : (n k : ℕ) → get_or (replicate {A = Option ℕ} n None) k None ≡ None
none-at n k = elim (cases_lt k n) [
  | inl low ↦ get_or-replicate n k None None low
  | inr high ↦ get_or_past (replicate n None) k None (omega (arith, length-replicate {A = Option ℕ} n None))
]

pub holes-at : (blocks : List (Option ℕ)) (count i : ℕ) → get_or (with_holes blocks count) i None ≡ get_or blocks i None
holes-at blocks count i = elim (cases_lt i (length blocks)) [
  | inl low ↦ get_or_append_left blocks (replicate (count - length blocks) None) None i low
  | inr high ↦ get_or-append_right blocks (replicate (count - length blocks) None) (length blocks) i None refl high ∙ none-at (count - length blocks) (i - length blocks) ∙ sym (get_or_past blocks i None high)
]

pub growing : Growing
unfolding byte_at
growing image blocks count k = ap (λ (b : Option ℕ). get_or (content_at image b) (k % 4096) 0) (holes-at blocks count (k / 4096))
