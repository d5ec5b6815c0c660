-- Bytes that are written within one block, and part by part.
use Rattle.std.proofs.Common.{◌≡◌, ◌≢◌, ◌≤◌, ◌<◌, ◌+◌, ◌-◌, ◌*◌, ◌++◌, ℕ, Bool, true, false, List, [], Option, Some, None, length, get_or, set, max, min, replicate, ◌/◌, ◌%◌, ◌⊎◌, ◌||◌, refl, sym, ap, ◌∙◌, arith, subst, inl, inr, eqb}
use Rattle.std.specs.Prelude.{Result, Ok, Err, IfOk, OnOk}
use Rattle.std.proofs.lemmas.Bool.{cases_lt}
use Rattle.std.proofs.lemmas.List.{length-append, length-set, length-replicate, get_or-set_same, get_or-set_other}
use Rattle.disk.specs.Moments.{Image, put}
use Rattle.disk.specs.declared.update.Update.{Update}
use Rattle.freemap.specs.Kept.{free_places}
use Rattle.disk.specs.Calls.{zero_sector}
use Rattle.sector.specs.Placed.{placed}
use Rattle.extents.specs.Runs.{with_holes}
use Rattle.layout.specs.CachedNodes.{content_at, byte_at}
use Rattle.layout.specs.Files.{over}
use Rattle.layout.specs.Marks.{once_if, times_set, mark_by}
use Rattle.layout.proofs.FileLaws.{holes-at, over-prefix, over-part, over-past, over-same, filling, writing, writing_on}
use Rattle.layout.proofs.Frame.{times_set-at, content-kept}
use Rattle.layout.proofs.MarkProofs.{each_mark}
use Rattle.layout.proofs.StepLaws.{each_own, others_hold, each_change}
use Rattle.layout.proofs.NumberLaws.{once-here}
use Rattle.tree_transaction.specs.Blocks.{IsSectorPut, TakesSector, HaveMarks, HaveRegion, FollowBlocks, GetSectors, GetsSector, WritesOne, WritesBytes, ChangeBlocks, FillHoles, set_blocks}
use Rattle.tree_transaction.specs.Updates.{ChangeOne}
use Rattle.tree_transaction.proofs.CountLaws.{takes_free, set_more, set_holes}
use Rattle.tree_transaction.proofs.UpdateLaws.{put-here, put-elsewhere}

module _ (old new : Image) (sector : ℕ) (content : List ℕ) (is : IsSectorPut old new sector content) where
  pub here : new sector ≡ content
  here = ap (λ (i : Image). i sector) is ∙ put-here old (record { target = sector; content = content }) sector refl

  pub elsewhere : (n : ℕ) → n ≢ sector → new n ≡ old n
  elsewhere n off = ap (λ (i : Image). i n) is ∙ put-elsewhere old (record { target = sector; content = content }) n (λ e. off (sym e))

pub bytes_none : (image : Image) (blocks : List (Option ℕ)) (offset : ℕ) → WritesBytes image image blocks blocks offset []
bytes_none image blocks offset k = elim (cases_lt k offset) [
  | inl low ↦ sym (over-prefix (byte_at image blocks) offset [] k low)
  | inr high ↦ sym (over-past (byte_at image blocks) offset [] k (omega arith))
]

pub bytes_on : (old mid new : Image) (was between is : List (Option ℕ)) (offset at : ℕ) (prefix part : List ℕ) → at ≡ offset + length prefix → WritesBytes old mid was between offset prefix → WritesBytes mid new between is at part
    → WritesBytes old new was is offset (prefix ++ part)
bytes_on old mid new was between is offset at prefix part at_is first second k =
    second k ∙ over-same (byte_at mid between) (over (byte_at old was) offset prefix) at part k (first k)
    ∙ ap (λ (o : ℕ). over (over (byte_at old was) offset prefix) o part k) at_is ∙ writing_on (byte_at old was) offset prefix part k

pub gets_none : (first : ℕ) (places : List Bool) (blocks : List (Option ℕ)) → GetSectors first places places blocks blocks
gets_none first places blocks = record { marks = λ n. refl; len = refl; free = refl; more = λ n. omega arith }

pub gets_on : (first : ℕ) (a b c : List Bool) (x y z : List (Option ℕ)) → GetSectors first a b x y → GetSectors first b c y z → GetSectors first a c x z
gets_on first a b c x y z one other = record {
  marks = λ n. omega (arith, one.marks n, other.marks n);
  len = other.len ∙ one.len;
  free = omega (arith, one.free, other.free);
  more = λ n. omega (arith, one.more n, other.more n);
}

pub fills_on : (one other : Bool) (x y z : List (Option ℕ)) → FillHoles one x y → FillHoles other y z → FillHoles (one || other) x z
fills_on false false x y z was is = is ∙ was
fills_on false true x y z was is = subst (λ (b : List (Option ℕ)). set_blocks b < set_blocks z) was is
fills_on true false x y z was is = subst (λ (b : List (Option ℕ)). set_blocks x < set_blocks b) (sym is) was
fills_on true true x y z was is = omega (arith, was, is)

pub none_filled : (filled : Bool) (was is : List (Option ℕ)) → filled ≡ false → FillHoles filled was is → is ≡ was
none_filled false was is none fills = fills
none_filled true was is none fills = absurd cc

pub changes_on : (old mid new : List Update) (between is : List (Option ℕ)) → ((n : ℕ) → times_set n between ≤ times_set n is) → ChangeBlocks old mid between → ChangeBlocks mid new is → ChangeBlocks old new is
changes_on old mid new between is more one other image n none = other image n none ∙ one image n (omega (arith, more n))

pub changes_one : (old new : List Update) (blocks : List (Option ℕ)) (block sector : ℕ) → get_or blocks block None ≡ Some sector → ChangeOne old new sector → ChangeBlocks old new blocks
changes_one old new blocks block sector is_set alone image n none =
    alone image n (λ e. absurd (let some = times_set-at blocks block sector is_set in let same = ap (λ (s : ℕ). times_set s blocks) e in omega arith))

-- a block that has a sector
pub writes_set : (first : ℕ) (places : List Bool) (old new : Image) (blocks : List (Option ℕ)) (block sector from : ℕ) (part : List ℕ) → HaveMarks first places blocks → get_or blocks block None ≡ Some sector → length (old sector) ≡ 4096
    → from + length part ≤ 4096 → IsSectorPut old new sector (placed (old sector) from part) → WritesBytes old new blocks blocks (4096 * block + from) part
writes_set first places old new blocks block sector from part marked is_set whole within is =
    let own = each_own blocks sector in
    let each = each_mark first places 0 in
    let once : times_set sector blocks ≤ 1 = omega (arith, marked sector, each.once sector) in
    let away = elsewhere old new sector (placed (old sector) from part) is in
    writing old new blocks block sector from part (record {
      is_set = is_set;
      whole = whole;
      within = within;
      written = here old new sector (placed (old sector) from part) is;
      others = others_hold old new blocks block sector (λ n off some. away n off) (own.once once block is_set);
    })

-- a hole
pub zeros-are : replicate 4096 0 ≡ zero_sector
unfolding zero_sector
zeros-are = refl

pub length-zero : length zero_sector ≡ 4096
unfolding zero_sector
length-zero = length-replicate {A = ℕ} 4096 0

-- what is under a part does not matter
over_all : (f g : ℕ → ℕ) (offset : ℕ) (part : List ℕ) (k : ℕ) → ((k < offset) ⊎ (offset + length part ≤ k) → f k ≡ g k) → over f offset part k ≡ over g offset part k
over_all f g offset part k same = elim (cases_lt k offset) [
  | inl low ↦ over-prefix f offset part k low ∙ same (inl low) ∙ sym (over-prefix g offset part k low)
  | inr high ↦ elim (cases_lt k (offset + length part)) [
    | inl within ↦ over-part f offset part k high within ∙ sym (over-part g offset part k high within)
    | inr past ↦ over-past f offset part k past ∙ same (inr past) ∙ sym (over-past g offset part k past)
  ]
]

byte_at-alike : (a b : Image) (blocks : List (Option ℕ)) (k : ℕ) → content_at a (get_or blocks (k / 4096) None) ≡ content_at b (get_or blocks (k / 4096) None) → byte_at a blocks k ≡ byte_at b blocks k
unfolding byte_at
byte_at-alike a b blocks k same = ap (λ (bytes : List ℕ). get_or bytes (k % 4096) 0) same

off_block : (block from k : ℕ) (part : List ℕ) → length part ≡ 4096 → from + length part ≤ 4096 → (k < 4096 * block + from) ⊎ (4096 * block + from + length part ≤ k) → k / 4096 ≢ block
off_block block from k part full within (inl low) e = omega arith
off_block block from k part full within (inr past) e = omega arith

-- a block that has a sector, all of it: what it held does not matter
pub writes_full : (first : ℕ) (places : List Bool) (old new : Image) (blocks : List (Option ℕ)) (block sector from : ℕ) (part : List ℕ) → HaveMarks first places blocks → get_or blocks block None ≡ Some sector → length part ≡ 4096
    → from + length part ≤ 4096 → IsSectorPut old new sector (placed zero_sector from part) → WritesBytes old new blocks blocks (4096 * block + from) part
writes_full first places old new blocks block sector from part marked is_set full within is =
    let own = each_own blocks sector in
    let each = each_mark first places 0 in
    let once : times_set sector blocks ≤ 1 = omega (arith, marked sector, each.once sector) in
    let alone = own.once once block is_set in
    let away = elsewhere old new sector (placed zero_sector from part) is in
    let mid : Image = put old (record { target = sector; content = zero_sector }) in
    let mid_is : IsSectorPut old mid sector zero_sector = refl in
    let zeros : mid sector ≡ zero_sector = here old mid sector zero_sector mid_is in
    let mid_away = elsewhere old mid sector zero_sector mid_is in
    let others = others_hold old mid blocks block sector (λ n off some. mid_away n off) alone in
    λ k.
    writing mid new blocks block sector from part (record {
      is_set = is_set;
      whole = ap length zeros ∙ length-zero;
      within = within;
      written = here old new sector (placed zero_sector from part) is ∙ ap (λ (s : List ℕ). placed s from part) (sym zeros);
      others = others_hold mid new blocks block sector (λ n off some. away n off ∙ sym (mid_away n off)) alone;
    }) k
    ∙ over_all (byte_at mid blocks) (byte_at old blocks) (4096 * block + from) part k (λ out. byte_at-alike mid old blocks k (others (k / 4096) (off_block block from k part full within out)))

pub writes_hole : (first : ℕ) (places taken : List Bool) (old new : Image) (blocks : List (Option ℕ)) (block sector from : ℕ) (part : List ℕ) → HaveMarks first places blocks → block < length blocks → get_or blocks block None ≡ None
    → TakesSector first places taken sector → from + length part ≤ 4096 → IsSectorPut old new sector (placed zero_sector from part) → WritesBytes old new blocks (set blocks block (Some sector)) (4096 * block + from) part
writes_hole first places taken old new blocks block sector from part marked in_blocks hole takes within is =
    let each = each_mark first places (sector - first) in
    let each_taken = each_mark first taken 0 in
    let at : first + (sector - first) ≡ sector = let behind = takes.behind in omega arith in
    let mark : (n : ℕ) → mark_by first taken n ≡ mark_by first places n + once_if (eqb n sector) =
    λ n. ap (λ (p : List Bool). mark_by first p n) takes.taken ∙ each.taken takes.free n ∙ ap (λ (s : ℕ). mark_by first places n + once_if (eqb n s)) at in
    let unmarked : mark_by first places sector ≡ 0 = omega (arith, mark sector, each_taken.once sector, once-here sector) in
    let unnamed : times_set sector blocks ≡ 0 = omega (arith, marked sector) in
    let now : List (Option ℕ) = set blocks block (Some sector) in
    let more : (n : ℕ) → times_set n now ≡ times_set n blocks + once_if (eqb n sector) = λ n. let change = each_change n blocks in change.filled block sector in_blocks hole in
    let mid : Image = put old (record { target = sector; content = zero_sector }) in
    let mid_is : IsSectorPut old mid sector zero_sector = refl in
    let zeros : mid sector ≡ zero_sector = here old mid sector zero_sector mid_is in
    let is_set : get_or now block None ≡ Some sector = get_or-set_same blocks block (Some sector) None in_blocks in
    let own = each_own now sector in
    let alone = own.once (omega (arith, more sector, once-here sector)) block is_set in
    let away = elsewhere old new sector (placed zero_sector from part) is in
    let mid_away = elsewhere old mid sector zero_sector mid_is in
    let unlike : (n : ℕ) → 0 < times_set n blocks → n ≢ sector = λ n some e. let same = ap (λ (s : ℕ). times_set s blocks) e in omega arith in
    λ k.
    writing mid new now block sector from part (record {
      is_set = is_set;
      whole = ap length zeros ∙ length-zero;
      within = within;
      written = here old new sector (placed zero_sector from part) is ∙ ap (λ (s : List ℕ). placed s from part) (sym zeros);
      others = others_hold mid new now block sector (λ n off some. away n off ∙ sym (mid_away n off)) alone;
    }) k
    ∙ over-same (byte_at mid now) (byte_at old blocks) (4096 * block + from) part k (filling old mid blocks block sector (record {
      within = in_blocks;
      hole = hole;
      zeros = zeros;
      others = λ i off. content-kept old mid blocks (λ n some. mid_away n (unlike n some)) (get_or blocks i None) i refl;
    }) k)

-- a hole that has been allocated a sector
pub takes_sector : (first : ℕ) (places taken : List Bool) (blocks : List (Option ℕ)) (block sector : ℕ) → block < length blocks → get_or blocks block None ≡ None → TakesSector first places taken sector
    → GetSectors first places taken blocks (set blocks block (Some sector))
takes_sector first places taken blocks block sector in_blocks hole takes =
    let each = each_mark first places (sector - first) in
    let at : first + (sector - first) ≡ sector = let behind = takes.behind in omega arith in
    let mark : (n : ℕ) → mark_by first taken n ≡ mark_by first places n + once_if (eqb n sector) =
    λ n. ap (λ (p : List Bool). mark_by first p n) takes.taken ∙ each.taken takes.free n ∙ ap (λ (s : ℕ). mark_by first places n + once_if (eqb n s)) at in
    let more : (n : ℕ) → times_set n (set blocks block (Some sector)) ≡ times_set n blocks + once_if (eqb n sector) = λ n. let change = each_change n blocks in change.filled block sector in_blocks hole in
    let one_less : free_places taken ≡ free_places (set places (sector - first) true) = ap free_places takes.taken in
    record {
      marks = λ n. omega (arith, mark n, more n);
      len = ap length takes.taken ∙ length-set places (sector - first) true;
      free = omega (arith, one_less, takes_free places (sector - first) takes.free, set_more blocks block sector in_blocks hole);
      more = λ n. omega (arith, more n);
    }

-- a sector that a block has is in the volume
pub sector-within : (first size : ℕ) (places : List Bool) (blocks : List (Option ℕ)) (block sector : ℕ) → first + length places ≤ size → HaveMarks first places blocks → get_or blocks block None ≡ Some sector → sector < size
sector-within first size places blocks block sector room marked is =
    let each = each_mark first places 0 in
    let some = times_set-at blocks block sector is in
    elim (cases_lt sector (first + length places)) [
      | inl low ↦ omega arith
      | inr high ↦ absurd (let none = each.within sector high in omega (arith, marked sector))
    ]

-- what follows if a result is Ok

pub on_ok : {A E P Q : Type 0} (r : Result A E) → OnOk r P → (P → Q) → OnOk r Q
on_ok (Ok x) is f = f is
on_ok (Err e) is f = tt

pub on_both : {A E P Q R : Type 0} (r : Result A E) → OnOk r P → OnOk r Q → (P → Q → R) → OnOk r R
on_both (Ok x) p q f = f p q
on_both (Err e) p q f = tt

-- how many parts there are: each but the first begins at the border of a block
pub parts_counted : (offset done more len first was is : ℕ) → done < len → more ≡ min (4096 - (offset + done) % 4096) (len - done) → (done ≡ 0) ⊎ (((offset + done) % 4096 ≡ 0) ⊎ (done ≡ len)) → (done ≡ 0 → was ≤ first)
    → was ≤ first + (offset % 4096 + done + 4095) / 4096 → is ≤ was + 1 → is ≤ first + (offset % 4096 + (done + more) + 4095) / 4096
parts_counted offset done more len first was is low more_is border none count step = elim border [
  | inl start ↦ omega (arith, none start)
  | inr other ↦ elim other [
    | inl at ↦ omega arith
    | inr end ↦ absurd (omega arith)
  ]
]

-- ---- one block is written

has_marks : (first : ℕ) (was is : List Bool) (was_blocks is_blocks : List (Option ℕ)) → HaveMarks first was was_blocks → FollowBlocks first was is was_blocks is_blocks → HaveMarks first is is_blocks
has_marks first was is was_blocks is_blocks marked follow n = omega (arith, marked n, follow n)

pub region_on : (first : ℕ) (was is : List Bool) (was_blocks is_blocks : List (Option ℕ)) → HaveRegion first was was_blocks → GetSectors first was is was_blocks is_blocks → length is_blocks ≤ 4096 → HaveRegion first is is_blocks
region_on first was is was_blocks is_blocks region gets few = record {
  room = omega (arith, region.room, gets.len);
  marked = has_marks first was is was_blocks is_blocks region.marked gets.marks;
  few = few;
}

pub holes_marked : (first : ℕ) (places : List Bool) (was : List (Option ℕ)) (count : ℕ) → HaveMarks first places was → HaveMarks first places (with_holes was count)
holes_marked first places was count marked n = let change = each_change n was in omega (arith, change.grown count, marked n)

pub length-holes : (was : List (Option ℕ)) (count : ℕ) → length (with_holes was count) ≡ max (length was) count
length-holes was count = omega (arith, length-append was (replicate (count - length was) None), length-replicate {A = Option ℕ} (count - length was) None)

pub region_holes : (first : ℕ) (places : List Bool) (was : List (Option ℕ)) (count : ℕ) → HaveRegion first places was → count ≤ 4096 → HaveRegion first places (with_holes was count)
region_holes first places was count region few = record {
  room = region.room;
  marked = holes_marked first places was count region.marked;
  few = omega (arith, length-holes was count, region.few);
}

pub gets_old : (first : ℕ) (places : List Bool) (blocks : List (Option ℕ)) (block sector : ℕ) → get_or blocks block None ≡ Some sector → GetsSector first places places blocks blocks block sector
gets_old first places blocks block sector is = record { is_set = is; same = λ i off. refl; gets = gets_none first places blocks; count = refl }

pub gets_new : (first : ℕ) (places taken : List Bool) (blocks : List (Option ℕ)) (block sector : ℕ) → block < length blocks → get_or blocks block None ≡ None → TakesSector first places taken sector
    → GetsSector first places taken blocks (set blocks block (Some sector)) block sector
gets_new first places taken blocks block sector in_blocks hole takes = record {
  is_set = get_or-set_same blocks block (Some sector) None in_blocks;
  same = λ i off. get_or-set_other blocks block i (Some sector) None off;
  gets = takes_sector first places taken blocks block sector in_blocks hole takes;
  count = length-set blocks block (Some sector);
}

-- after holes at the end, if at most one more block is new
pub writes_one : (first : ℕ) (places is_places : List Bool) (old new : Image) (was is : List (Option ℕ)) (block sector : ℕ) (content : List ℕ) → block ≤ length was → HaveMarks first places was
    → GetsSector first places is_places (with_holes was (block + 1)) is block sector → IsSectorPut old new sector content → WritesOne old new was is block content
writes_one first places is_places old new was is block sector content in_blocks marked gets put =
    let long : length (with_holes was (block + 1)) ≡ max (length was) (block + 1) =
    omega (arith, length-append was (replicate (block + 1 - length was) None), length-replicate {A = Option ℕ} (block + 1 - length was) None) in
    let more : HaveMarks first places (with_holes was (block + 1)) = λ n. let change = each_change n was in omega (arith, change.grown (block + 1), marked n) in
    let all = (let g = gets.gets in has_marks first places is_places (with_holes was (block + 1)) is more g.marks) in
    let each = each_mark first is_places 0 in
    let own = each_own is sector in
    let alone = own.once (omega (arith, all sector, each.once sector)) block gets.is_set in
    let away = elsewhere old new sector content put in
    let others = others_hold old new is block sector (λ n off some. away n off) alone in
    record {
      here = ap (content_at new) gets.is_set ∙ here old new sector content put;
      kept = λ i off h. (
        omega (arith, gets.count),
        others i off ∙ ap (content_at old) (gets.same i off ∙ holes-at was (block + 1) i),
      );
      others = λ n none. away n (λ e. absurd (let some = times_set-at is block sector gets.is_set in let same = ap (λ (s : ℕ). times_set s is) e in omega arith));
      count = gets.count ∙ long;
    }

pub gets_holes : (first : ℕ) (places is_places : List Bool) (was is : List (Option ℕ)) (count : ℕ) → GetSectors first places is_places (with_holes was count) is → GetSectors first places is_places was is
gets_holes first places is_places was is count gets = record {
  marks = λ n. let change = each_change n was in omega (arith, change.grown count, gets.marks n);
  len = gets.len;
  free = omega (arith, gets.free, set_holes was count);
  more = λ n. let change = each_change n was in omega (arith, change.grown count, gets.more n);
}

pub if_both : {A E : Type 0} {P Q R : A → Type 0} (r : Result A E) → IfOk r P → IfOk r Q → ((x : A) → P x → Q x → R x) → IfOk r R
if_both (Ok x) p q f = f x p q
if_both (Err e) p q f = tt
