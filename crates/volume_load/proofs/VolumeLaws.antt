-- A whole volume.
use Rattle.std.proofs.Common.{◌≡◌, ◌≤◌, ◌<◌, ◌+◌, ◌-◌, ◌^◌, ℕ, Bool, List, Option, Some, None, get_or, refl, sym, ap, subst, ◌∙◌, arith, inl, inr, lt-ltb, le-ltb}
use Rattle.std.proofs.lemmas.Bool.{cases_lt}
use Rattle.std.proofs.lemmas.List.{ext_get_or, get_or_past}
use Rattle.disk.specs.Moments.{Image}
use Rattle.freemap.specs.Places.{mark_of, bit_of, bit_in}
use Rattle.inode.specs.declared.node.Form.{Form}
use Rattle.layout.specs.CachedNodes.{CachedNode}
use Rattle.layout.specs.Known.{AreCached}
use Rattle.layout.specs.Laid.{AreLaid, AreNumbered}
use Rattle.layout.specs.Marks.{named, mark_in, mark_by}
use Rattle.layout.specs.declared.versions.Marking.{Marking}
use Rattle.layout.specs.declared.versions.Marking.TheVariants.{InSectors, AsNamed}
use Rattle.layout.specs.Stands.{marked_by, HoldSeats, AreKept, HaveForms, IsLaid, IsMark, IsNumber, MayHaveSeats, data_end_by, form_by, mark_held, marking_by, version_by, sizes_by}
use Rattle.layout.specs.declared.versions.VersionNumber.{VersionNumber}
use Rattle.model_tree.specs.Seats.Seats.{Seats}
use Rattle.layout.proofs.CachedNodeLaws.{cached_nodes-back}
use Rattle.layout.proofs.MarkOnce.{one_mark}
use Rattle.layout.proofs.MarkProofs.{mark-back, each_mark, marks_laid}
use Rattle.volume_load.specs.CachedNodes.{FindsPlace, IsFound, CanHold}
use Rattle.volume_load.specs.Sectors.{AreBits, AreSpare, HaveBits, ShowMarks, zeros_from}
use Rattle.volume_load.specs.Volumes.{AreFew, IsRead}
use Rattle.volume_load.proofs.MarkingLaws.{most-in}
use Rattle.volume_load.proofs.SpareLaws.{mark_there, spare_there}
use Rattle.volume_load.proofs.TableLaws.{place_held, place_known, place_found, one_place}

-- Cached nodes that are laid can be held

laid_can : (word : Type 0) (number : VersionNumber) (mark : Option ℕ) (seats : Seats) (image : Image) (size nodes count : ℕ) (cached_nodes : List (Option CachedNode)) → data_end_by number size ≡ 148 + nodes + count → IsLaid (version_by number mark seats) size nodes image cached_nodes → AreFew cached_nodes
    → CanHold word (form_by number mark) image nodes count cached_nodes
laid_can word number mark seats image size nodes count cached_nodes sized laid few = record {
  many = laid.laid.count;
  each = λ place h. place_found word (form_by number mark place) image place (get_or cached_nodes place None) (λ cached is. laid.forms place cached is) (λ cached is. few place cached is)
      (laid.laid.held place h);
  once = λ n. elim (cases_lt 0 (marked_by (marking_by number) nodes image cached_nodes n)) [
    | inl some ↦
        let low = laid.laid.behind n some in
        elim (cases_lt n (data_end_by number size)) [
          | inl high ↦ omega (arith, laid.laid.marks n, laid.laid.once n, most-in (148 + nodes) count n low (omega arith))
          | inr past ↦ absurd (let none = laid.within n past in omega arith)
        ]
    | inr none ↦ omega (arith, laid.laid.marks n)
  ];
}

-- by the one mark that is there
pub record LaidHere (number : VersionNumber) (mark : Option ℕ) (seats : Seats) (image : Image) (size nodes : ℕ) (cached_nodes : List (Option CachedNode)) : Type 0 where
  pub may : MayHaveSeats number mark seats
  pub laid : IsLaid (version_by number mark seats) size nodes image cached_nodes

module _ (number : VersionNumber) (mark other : Option ℕ) (seats : Seats) (image : Image) (size nodes : ℕ) (cached_nodes : List (Option CachedNode)) (small : nodes < 2 ^ 32) (is : IsMark number nodes mark) (there : image 147 ≡ mark_held mark) (one : IsMark number nodes other) (may : MayHaveSeats number other seats)
    (laid : IsLaid (version_by number other seats) size nodes image cached_nodes) where
  pub laid_here : LaidHere number mark seats image size nodes cached_nodes
  laid_here =
      let same : other ≡ mark = one_mark number nodes other mark small one is (sym (mark_there number nodes other seats image one laid.spare) ∙ there) in
      record {
        may = subst (λ (m : Option ℕ). MayHaveSeats number m seats) same may;
        laid = subst (λ (m : Option ℕ). IsLaid (version_by number m seats) size nodes image cached_nodes) same laid;
      }

  pub can_here : (word : Type 0) (count : ℕ) → data_end_by number size ≡ 148 + nodes + count → AreFew cached_nodes → CanHold word (form_by number mark) image nodes count cached_nodes
  can_here word count sized few = laid_can word number mark seats image size nodes count cached_nodes sized laid_here.laid few

-- and are those that were found
pub one_table : (word : Type 0) (form : ℕ → Form) (image : Image) (nodes count : ℕ) (cached_nodes others : List (Option CachedNode)) (places : List Bool) → word → IsFound word form image nodes count cached_nodes places → CanHold word form image nodes count others → cached_nodes ≡ others
one_table word form image nodes count cached_nodes others places w found can =
    ext_get_or None cached_nodes others (found.many ∙ sym can.many) (λ p h. one_place word (form p) image p (get_or cached_nodes p None) (get_or others p None) w (found.each p (omega (arith, found.many))) (can.each p (omega (arith, found.many))))

-- The marks of the bitmap

module _ (nodes : ℕ) (image : Image) (places : List Bool) (marks : (n : ℕ) → mark_in nodes image n ≡ mark_by (148 + nodes) places n) where
  bits : (k : ℕ) → bit_in (image 98) (image 99) k ≡ mark_of places k
  unfolding mark_in
  bits k =
      let first = 148 + nodes in
      let far : first ≤ first + k = omega arith in
      let at : first + k - first ≡ k = omega arith in
      let one : mark_in nodes image (first + k) ≡ bit_in (image 98) (image 99) (first + k - first) = rw (le-ltb (first + k) first far) refl in
      ap (bit_in (image 98) (image 99)) (sym at) ∙ sym one ∙ marks (first + k) ∙ mark-back first places (first + k) far ∙ ap (mark_of places) at

  pub low_bits : AreBits (image 98) places 0
  low_bits i h = (rw (lt-ltb i 32768 h) at (bits i)) ∙ ap (mark_of places) (let e : i ≡ 0 + i = omega arith in e)

  pub high_bits : AreBits (image 99) places 32768
  high_bits i h =
      let far : 32768 ≤ 32768 + i = omega arith in
      let e : 32768 + i - 32768 ≡ i = omega arith in
      ap (bit_of (image 99)) (sym e) ∙ (rw (le-ltb (32768 + i) 32768 far) at (bits (32768 + i)))

-- if cached nodes are laid, the marks that were made are those of the bitmap
pub have_bits : (marking : Marking) (word : Type 0) (form : ℕ → Form) (image : Image) (nodes count : ℕ) (cached_nodes others : List (Option CachedNode)) (places : List Bool) → word → IsFound word form image nodes count cached_nodes places → CanHold word form image nodes count others
    → AreLaid nodes image (marked_by marking nodes image others) others → HaveBits marking image places
have_bits InSectors word form image nodes count cached_nodes others places w found can laid =
    let marks : (n : ℕ) → mark_in nodes image n ≡ mark_by (148 + nodes) places n = λ n. sym (laid.marks n) ∙ ap (named n) (sym (one_table word form image nodes count cached_nodes others places w found can)) ∙ sym (found.marks n) in
    (low_bits nodes image places marks, high_bits nodes image places marks)
have_bits AsNamed word form image nodes count cached_nodes others places w found can laid = tt

-- What is found of all parts is read

-- the marks are those that were made
marks_are : (marking : Marking) (word : Type 0) (form : ℕ → Form) (image : Image) (nodes count : ℕ) (cached_nodes : List (Option CachedNode)) (places : List Bool) → (marking ≡ InSectors → count ≤ 65536) → IsFound word form image nodes count cached_nodes places
    → ShowMarks marking image places → (n : ℕ) → marked_by marking nodes image cached_nodes n ≡ mark_by (148 + nodes) places n
marks_are InSectors word form image nodes count cached_nodes places small found shown =
    marks_laid nodes count image places (small refl) (record { count_is = found.len; low_shows = shown.0; high_shows = shown.1 })
marks_are AsNamed word form image nodes count cached_nodes places small found shown = λ n. sym (found.marks n)

module _ (word : Type 0) (number : VersionNumber) (run : ℕ) (mark : Option ℕ) (seats : Seats) (image : Image) (size nodes count : ℕ) (cached_nodes : List (Option CachedNode)) (places : List Bool) (is_number : IsNumber number) (sized : data_end_by number size ≡ 148 + nodes + count) (small : marking_by number ≡ InSectors → count ≤ 65536) (marked : IsMark number nodes mark) (may : MayHaveSeats number mark seats) (keeps : AreKept (sizes_by number) run seats)
    (found : IsFound word (form_by number mark) image nodes count cached_nodes places) (apart : AreNumbered cached_nodes) (shown : word → ShowMarks (marking_by number) image places) (there : word → image 147 ≡ mark_held mark) (holds : word → HoldSeats number image seats) (spare : word → AreSpare (zeros_from number) image) where
  known : AreCached nodes (mark_by (148 + nodes) places) cached_nodes
  known =
      let each = each_mark (148 + nodes) places 0 in
      record {
        count = found.many;
        each = λ place h. place_known word (form_by number mark place) image place (get_or cached_nodes place None) (found.each place h);
        apart = apart;
        marks = λ n. sym (found.marks n);
        behind = each.behind;
        once = each.once;
      }

  same : word → (n : ℕ) → marked_by (marking_by number) nodes image cached_nodes n ≡ mark_by (148 + nodes) places n
  same w = marks_are (marking_by number) word (form_by number mark) image nodes count cached_nodes places small found (shown w)

  laid : word → AreLaid nodes image (marked_by (marking_by number) nodes image cached_nodes) cached_nodes
  laid w =
      let each = each_mark (148 + nodes) places 0 in
      record {
        count = found.many;
        held = λ place h. place_held word (form_by number mark place) image place (get_or cached_nodes place None) w (found.each place h);
        apart = apart;
        marks = λ n. sym (found.marks n) ∙ sym (same w n);
        behind = λ n some. each.behind n (omega (arith, same w n));
        once = λ n. omega (arith, same w n, each.once n);
      }

  found_at : (place : ℕ) (cached : CachedNode) → get_or cached_nodes place None ≡ Some cached → FindsPlace word (form_by number mark place) image place (Some cached)
  found_at place cached is = elim (cases_lt place nodes) [
    | inl h ↦ subst (FindsPlace word (form_by number mark place) image place) is (found.each place h)
    | inr past ↦ absurd (none_some cached (sym (get_or_past cached_nodes place None (omega (arith, found.many))) ∙ is))
  ]
    where
      none_some : (cached : CachedNode) → (let none : Option CachedNode = None in none ≡ Some cached)
          → ⊥
      none_some cached e = cc

  few : AreFew cached_nodes
  few place cached is = let at = found_at place cached is in let rest = at.rest in let blocks = rest.in_blocks in blocks.few

  forms : HaveForms (version_by number mark seats) cached_nodes
  forms place cached is = let at = found_at place cached is in at.form

  pub is_read : IsRead word size nodes number run mark seats image cached_nodes places
  is_read = record {
    marked = marked;
    may = may;
    keeps = keeps;
    known = known;
    forms = forms;
    few = few;
    end_is = sized ∙ ap (λ (n : ℕ). 148 + nodes + n) (sym found.len);
    laid = λ w. record {
      laid = laid w;
      forms = forms;
      within = λ n h. same w n ∙ (let each = each_mark (148 + nodes) places 0 in each.within n (omega (arith, found.len)));
      spare = spare_there number nodes mark seats image is_number marked may keeps.places (there w) (holds w) (spare w);
    };
    read = λ w. let all = laid w in sym (cached_nodes-back image nodes cached_nodes found.many all.held);
  }
