-- A format without a range of sectors: which ones it writes, and what it leaves.
use Rattle.std.proofs.Common.{◌≡◌, ◌≤◌, ◌<◌, ◌⊎◌, ◌+◌, ◌-◌, ◌==◌, ℕ, suc, zero, Bool, true, false, cond, not, min, List, [], ◌∷◌, ◌++◌, length, map, filter, take, drop, refl, sym, ap, ◌∙◌, subst, inl, inr, ⊎_elim, arith, if◌then◌else◌, append-nil, length-append}
use Rattle.std.specs.List.{range_with_len}
use Rattle.std.specs.declared.ops.Range.{Range}
use Rattle.std.proofs.Math.Seq.{take-append_seam}
use Rattle.std.proofs.lemmas.Bool.{cases_lt, cases_Bool, and_from, and_left, and_right, le-leb, lt-leb, lt-ltb, le-ltb}
use Rattle.std.proofs.lemmas.List.{take-append-drop}
use Rattle.std.proofs.lemmas.List.Elements.{filter-append}
use Rattle.std.proofs.lemmas.List.FromFn.{filter_of_map_range_with_len_more, take-map-range_with_len}
use Rattle.disk.specs.declared.update.Update.{Update}
use Rattle.disk.specs.Moments.{Image, History, put, applied, wrote}
use Rattle.disk.specs.Calls.{zero_sector}
use Rattle.journal.specs.declared.layout.LogArea.{LogArea}
use Rattle.journal.specs.Layout.{AreTargets, IsArea, area_end, gate, targets}
use Rattle.journal.specs.Phase.{AddsAtMost, AddsUpdates, IsFixedAs}
use Rattle.journal.specs.Format.{formatted, fresh, fresh_at, fresh_outside, is_in, is_written, payload_of, AddsFormatsOutside, IsFormattedOutside, LeavesFormattedOutside, MayStayUnread, SettlesOutside}
use Rattle.journal.proofs.Areas.{end_within, large_for}
use Rattle.journal.proofs.Images.{Out, put_other, low_out, applied_out, if_same, if_other}
use Rattle.journal.proofs.Stages.{Fit-of, no_targets}
use Rattle.journal.proofs.Moments.{wrote_all, wrote_all-push}
use Rattle.journal.proofs.Phases.{prefix_moments}
use Rattle.journal.proofs.Formats.{zero_update, erased_moments, format_done, format_fresh, format_last, fresh_out, range_applied}
use Rattle.journal.proofs.Lists.{applied_at}

in_true : (r : Range ℕ) (n : ℕ) → r.start ≤ n → n < r.end → is_in r n ≡ true
in_true r n l h = and_from _ _ (le-leb r.start n l) (lt-ltb n r.end h)

in_false : (r : Range ℕ) (n : ℕ) → (n < r.start) ⊎ (r.end ≤ n) → is_in r n ≡ false
in_false r n w = ⊎_elim
    (λ (l : n < r.start). and_left _ _ (lt-leb r.start n l))
    (λ (l : r.end ≤ n). and_right _ _ (le-ltb n r.end l)) w

pub written_at : (area : LogArea) (unread : Range ℕ) (n : ℕ) → (n < unread.start) ⊎ (unread.end ≤ n) → (n < area.first) ⊎ (area.first + area.sectors ≤ n)
    → is_written area unread n ≡ true
written_at area unread n u a = and_from _ _ (ap not (in_false unread n u)) (ap not (in_false (payload_of area) n a))

pub unread_at : (area : LogArea) (unread : Range ℕ) (n : ℕ) → unread.start ≤ n → n < unread.end → is_written area unread n ≡ false
unread_at area unread n l h = and_left _ _ (ap not (in_true unread n l h))

pub logged_at : (area : LogArea) (unread : Range ℕ) (n : ℕ) → area.first ≤ n → n < area.first + area.sectors → is_written area unread n ≡ false
logged_at area unread n l h = and_right _ _ (ap not (in_true (payload_of area) n l h))

module _ (area : LogArea) (unread : Range ℕ) (updates : List Update) where
  abbrev kept : Update → Bool
  kept u = is_written area unread u.target

  abbrev below : ℕ → List Update
  below n = fresh_outside area unread n updates

  one_more : (n : ℕ) → 1 ≤ n → below (n + 1) ≡ below n ++ cond (is_written area unread n) (fresh_at updates n ∷ []) []
  one_more n l =
      let e : n + 1 - 1 ≡ n - 1 + 1 = omega arith in
      ap (λ (k : ℕ). filter kept (map (fresh_at updates) (range_with_len 1 k))) e
      ∙ filter_of_map_range_with_len_more kept (fresh_at updates) 1 (n - 1) n (omega arith)

  written_more : (n : ℕ) → 1 ≤ n → is_written area unread n ≡ true → below (n + 1) ≡ below n ++ fresh_at updates n ∷ []
  written_more n l e = one_more n l ∙ ap (λ (b : Bool). below n ++ cond b (fresh_at updates n ∷ []) []) e

  passed_one : (n : ℕ) → 1 ≤ n → is_written area unread n ≡ false → below (n + 1) ≡ below n
  passed_one n l e = one_more n l ∙ ap (λ (b : Bool). below n ++ cond b (fresh_at updates n ∷ []) []) e ∙ append-nil (below n)

  -- sectors that are passed over
  passed_by : (n k : ℕ) → 1 ≤ n → ((m : ℕ) → n ≤ m → m < n + k → is_written area unread m ≡ false) → below (n + k) ≡ below n
  passed_by n zero l p = ap below (omega arith)
  passed_by n (suc k) l p =
      let e : n + suc k ≡ n + k + 1 = omega arith in
      ap below e ∙ passed_one (n + k) (omega arith) (p (n + k) (omega arith) (omega arith))
      ∙ passed_by n k l (λ m a b. p m a (omega arith))

  pub passed : (n m : ℕ) → 1 ≤ n → n ≤ m → ((i : ℕ) → n ≤ i → i < m → is_written area unread i ≡ false) → below m ≡ below n
  passed n m l h p =
      let e : m ≡ n + (m - n) = omega arith in
      ap below e ∙ passed_by n (m - n) l (λ i a b. p i a (omega arith))

  -- what is written below a sector comes first
  pub below_first : (n size : ℕ) → 1 ≤ n → n ≤ size → take (length (below n)) (below size) ≡ below n
  below_first n size l h =
      let rest : List Update = filter kept (drop (n - 1) (fresh size updates)) in
      let split : below size ≡ below n ++ rest =
      ap (filter kept) (sym (take-append-drop (n - 1) (fresh size updates)))
      ∙ filter-append kept (take (n - 1) (fresh size updates)) (drop (n - 1) (fresh size updates))
      ∙ ap (λ (us : List Update). filter kept us ++ rest) (take-map-range_with_len (fresh_at updates) 1 (size - 1) (n - 1) (omega arith)) in
      ap (take (length (below n))) split ∙ take-append_seam (below n) rest

  pub wrote_below : (n size : ℕ) (h h1 : History) → 1 ≤ n → n ≤ size → h1 ≡ wrote_all (below n) h → h1 ≡ wrote_all (take (length (below n)) (below size)) h
  wrote_below n size h h1 l b e = e ∙ ap (λ (us : List Update). wrote_all us h) (sym (below_first n size l b))

  -- the next sector was written
  pub wrote_next : (n : ℕ) (u : Update) (h h1 h2 : History) → 1 ≤ n → is_written area unread n ≡ true → u ≡ fresh_at updates n
      → h1 ≡ wrote_all (below n) h → h2 ≡ wrote u h1 → h2 ≡ wrote_all (below (n + 1)) h
  wrote_next n u h h1 h2 l w at e q =
      q ∙ ap (wrote u) e ∙ sym (wrote_all-push (below n) u h)
      ∙ ap (λ (us : List Update). wrote_all us h) (ap (λ (v : Update). below n ++ v ∷ []) at ∙ sym (written_more n l w))

  pub below_moments : (n size : ℕ) (h h1 : History) → 1 ≤ n → n ≤ size → h1 ≡ wrote_all (below n) h → AddsUpdates (below size) h h1
  below_moments n size h h1 l b e = prefix_moments (below size) (length (below n)) h h1 (wrote_below n size h h1 l b e)

  -- or that write failed
  pub next_failed : (n size : ℕ) (u : Update) (h h1 h2 : History) → 1 ≤ n → n < size → is_written area unread n ≡ true → u ≡ fresh_at updates n
      → h1 ≡ wrote_all (below n) h → (h2 ≡ h1) ⊎ (h2 ≡ wrote u h1) → AddsUpdates (below size) h h2
  next_failed n size u h h1 h2 l b w at e q = ⊎_elim
      (λ (s : h2 ≡ h1). below_moments n size h h2 l (omega arith) (s ∙ e))
      (λ (s : h2 ≡ wrote u h1). below_moments (n + 1) size h h2 (omega arith) (omega arith) (wrote_next n u h h1 h2 l w at e s)) q

  one_few : (b : Bool) (u : Update) → length (cond b (u ∷ []) []) ≤ 1
  one_few true u = omega arith
  one_few false u = omega arith

  -- each sector of the range is one that is not written
  few_by : (k : ℕ) → 1 ≤ unread.start → length (below (k + 1)) + (min (k + 1) unread.end - unread.start) ≤ k
  few_by zero b = omega arith
  few_by (suc k) b =
      let e : k + 1 ≡ suc k = omega arith in
      let before : length (below (suc k)) + (min (suc k) unread.end - unread.start) ≤ k = let P : ℕ → Type 0 = λ i. length (below i) + (min i unread.end - unread.start) ≤ k in subst P e (few_by k b) in
      let more : length (below (suc k + 1)) ≤ length (below (suc k)) + 1 =
      omega (arith, ap (λ (us : List Update). length us) (one_more (suc k) (omega arith)), length-append (below (suc k)) (cond (is_written area unread (suc k)) (fresh_at updates (suc k) ∷ []) []), one_few (is_written area unread (suc k)) (fresh_at updates (suc k))) in
      ⊎_elim
      (λ (l : suc k < unread.start). omega (arith, before, more, l))
      (λ (l : unread.start ≤ suc k). ⊎_elim
      (λ (h : suc k < unread.end). omega (arith, before, l, h, ap (λ (us : List Update). length us) (passed_one (suc k) (omega arith) (unread_at area unread (suc k) l h))))
      (λ (h : unread.end ≤ suc k). omega (arith, before, more, h))
      (cases_lt (suc k) unread.end))
      (cases_lt (suc k) unread.start)

  pub few_outside : (size : ℕ) → 1 ≤ size → 1 ≤ unread.start → unread.end ≤ size → length (below size) + (unread.end - unread.start) ≤ size - 1
  few_outside size l b h =
      let P : ℕ → Type 0 = λ i. length (below i) + (min i unread.end - unread.start) ≤ size - 1 in
      let e : size - 1 + 1 ≡ size = omega arith in
      let most : length (below size) + (min size unread.end - unread.start) ≤ size - 1 = subst P e (few_by (size - 1) b) in
      omega (arith, most, h)

  Out-filter : (us : List Update) (n : ℕ) → Out (targets us) n → Out (targets (filter kept us)) n
  Out-filter [] n o = tt
  Out-filter (u ∷ us) n o = ⊎_elim
      (λ (e : kept u ≡ true). rw e (o.0, Out-filter us n o.1))
      (λ (e : kept u ≡ false). rw e (Out-filter us n o.1))
      (cases_Bool (kept u))

  pub outside_out : (size : ℕ) → Out (targets (below size)) 0
  outside_out size = Out-filter (fresh size updates) 0 (fresh_out size updates)

  -- a sector that is written has what all of the updates give it
  applied-filter : (us : List Update) (F : Image) (n : ℕ) → is_written area unread n ≡ true → applied (filter kept us) F n ≡ applied us F n
  applied-filter [] F n w = refl
  applied-filter (u ∷ us) F n w = ⊎_elim
      (λ (e : kept u ≡ true). rw e (applied-filter us (put F u) n w))
      (λ (e : kept u ≡ false).
      let other : u.target ≡ n → ⊥ = λ q. let r : true ≡ false = sym w ∙ ap (is_written area unread) (sym q) ∙ e in absurd cc in
      rw e (applied-filter us F n w ∙ sym (applied_at us (put F u) F n (put_other F u n other))))
      (cases_Bool (kept u))

  pub outside_applied : (size : ℕ) (F : Image) (n : ℕ) → 1 ≤ n → n < size → is_written area unread n ≡ true
      → applied (below size) F n ≡ applied updates (λ _. zero_sector) n
  outside_applied size F n l h w =
      applied-filter (fresh size updates) F n w ∙ range_applied (fresh_at updates) 1 (size - 1) n F (λ m. refl) l (omega arith)

-- the base that an image settles to: the image in the range, and the format elsewhere
abbrev base_of : Range ℕ → List ℕ → List Update → Image → Image
base_of unread sector0 updates image = λ n. cond (is_in unread n) (image n) (formatted sector0 updates n)

base_outside : (unread : Range ℕ) (sector0 : List ℕ) (updates : List Update) (image : Image) → IsFormattedOutside unread sector0 updates (base_of unread sector0 updates image)
base_outside unread sector0 updates image n w =
    ap (λ (b : Bool). cond b (image n) (formatted sector0 updates n)) (in_false unread n w)

-- a sector of the caller is none of the log's
beside_log : (area : LogArea) (n : ℕ) → IsArea area → 98 ≤ n → n < area.end → (n < area.first) ⊎ (area.first + area.sectors ≤ n)
beside_log area n is l h = ⊎_elim
    (λ (q : area.first < area.end). inr (omega (arith, is.beside q)))
    (λ (q : area.end ≤ area.first). inl (omega arith))
    (cases_lt area.first area.end)

module _ (area : LogArea) (unread : Range ℕ) (size : ℕ) (sector0 : List ℕ) (updates : List Update) (is : IsArea area) (room : area_end area ≤ size)
    (stays : MayStayUnread size unread) (fit : AreTargets area.end (targets updates)) where
  within : area.end ≤ size
  within = end_within area size room

  large : 2 ≤ size
  large = omega (arith, large_for area size is room)

  behind : 2 ≤ unread.start
  behind = stays.behind

  low : (n : ℕ) → n < 98 → Out (targets updates) n
  low n l = low_out area.end (targets updates) n (Fit-of area.end (targets updates) fit) l

  pub outside_made : (from image : Image) → image 0 ≡ sector0 → ((n : ℕ) → (n ≡ 0 → ⊥) → image n ≡ applied (fresh_outside area unread size updates) from n)
      → SettlesOutside area unread sector0 updates image
  unfolding gate
  outside_made from image e rest =
      let start : Image = λ n. if n == 0 then sector0 else zero_sector in
      let base : Image = base_of unread sector0 updates image in
      let at : (n : ℕ) → 1 ≤ n → n < size → is_written area unread n ≡ true → image n ≡ applied updates (λ _. zero_sector) n = λ n l h w. rest n (λ z. omega arith) ∙ outside_applied area unread updates size from n l h w in
      let zeros_at : (n : ℕ) → n ≡ 0 → base n ≡ image n = λ n q.
      base_outside unread sector0 updates image n (inl (omega (arith, behind)))
      ∙ applied_out updates start n (low n (omega arith)) ∙ if_same n 0 sector0 zero_sector q ∙ sym e ∙ ap image (sym q) in
      let same : (n : ℕ) → 98 ≤ n → n < area.end → (n < unread.start) ⊎ (unread.end ≤ n) → base n ≡ image n = λ n l h w.
      base_outside unread sector0 updates image n w
      ∙ applied_at updates start (λ _. zero_sector) n (if_other n 0 sector0 zero_sector (λ z. omega arith))
      ∙ sym (at n (omega arith) (omega (arith, within)) (written_at area unread n w (beside_log area n is l h))) in
      let inside : (n : ℕ) → unread.start ≤ n → n < unread.end → base n ≡ image n = λ n l h.
      ap (λ (b : Bool). cond b (image n) (formatted sector0 updates n)) (in_true unread n l h) in
      record {
        base = base;
        is_formatted = base_outside unread sector0 updates image;
        settles = record {
          to = [];
          few = omega arith;
          fit = no_targets area;
          gate_is = at 1 (omega arith) (omega (arith, large)) (written_at area unread 1 (inl (omega (arith, behind))) (inl (omega (arith, is.behind)))) ∙ applied_out updates (λ _. zero_sector) 1 (low 1 (omega arith));
          same = λ n k. ⊎_elim
              (λ (q : n ≡ 0). zeros_at n q)
              (λ (q : 98 ≤ n). ⊎_elim
              (λ (b : n < unread.start). same n q k.1 (inl b))
              (λ (b : unread.start ≤ n). ⊎_elim
              (λ (r : n < unread.end). inside n b r)
              (λ (r : unread.end ≤ n). same n q k.1 (inr r))
              (cases_lt n unread.end))
              (cases_lt n unread.start))
              k.0;
        };
      }

  abbrev every : List Update
  every = fresh_outside area unread size updates

  abbrev Settled : Image → Type 0
  Settled = SettlesOutside area unread sector0 updates

  module _ (h : History) where
    pub outside_erased : (h1 : History) → AddsUpdates (zero_update ∷ []) h h1 → AddsFormatsOutside area unread sector0 updates h h1
    outside_erased h1 w = erased_moments every Settled sector0 h (outside_out area unread updates size) outside_made h1 w

    pub outside_fresh : (h1 h2 : History) → AddsUpdates (zero_update ∷ []) h h1 → IsFixedAs (zero_update ∷ []) h h1 → AddsUpdates (fresh_outside area unread size updates) h1 h2
        → AddsFormatsOutside area unread sector0 updates h h2
    outside_fresh h1 h2 w e v = format_fresh every Settled sector0 h (outside_out area unread updates size) outside_made h1 h2 w e v

    pub outside_last : (h1 h2 h3 : History) → AddsUpdates (zero_update ∷ []) h h1 → IsFixedAs (zero_update ∷ []) h h1 → AddsUpdates (fresh_outside area unread size updates) h1 h2
        → IsFixedAs (fresh_outside area unread size updates) h1 h2
        → (let u : Update = record { target = 0; content = sector0 } in AddsUpdates (u ∷ []) h2 h3) → AddsFormatsOutside area unread sector0 updates h h3
    outside_last h1 h2 h3 w e v f x = format_last every Settled sector0 h (outside_out area unread updates size) outside_made h1 h2 h3 w e v f x

    pub outside_done : (h1 h2 h3 : History) → IsFixedAs (fresh_outside area unread size updates) h1 h2
        → (let u : Update = record { target = 0; content = sector0 } in IsFixedAs (u ∷ []) h2 h3) → LeavesFormattedOutside area unread sector0 updates h3
    outside_done h1 h2 h3 f x image left = format_done every Settled sector0 h (outside_out area unread updates size) outside_made h1 h2 h3 f x image left

  -- the writes between the two of sector 0 are at most as many as there are sectors outside
  pub outside_few : length (fresh_outside area unread size updates) + 5 ≤ size - (unread.end - unread.start) + 4
  outside_few = omega (arith, few_outside area unread updates size (omega (arith, large)) (omega (arith, behind)) stays.on_device, stays.on_device, large, behind)

-- the device's size stays
module _ (area : LogArea) (unread : Range ℕ) (old new : ℕ) (updates : List Update) (h h1 : History) (e : new ≡ old) where
  pub outside_moments_at : AddsUpdates (fresh_outside area unread new updates) h h1 → AddsUpdates (fresh_outside area unread old updates) h h1
  outside_moments_at w = let P : ℕ → Type 0 = λ size. AddsUpdates (fresh_outside area unread size updates) h h1 in subst P e w

  pub outside_fixed_at : IsFixedAs (fresh_outside area unread new updates) h h1 → IsFixedAs (fresh_outside area unread old updates) h h1
  outside_fixed_at w = let P : ℕ → Type 0 = λ size. IsFixedAs (fresh_outside area unread size updates) h h1 in subst P e w

  pub outside_brief_at : AddsAtMost (length (fresh_outside area unread new updates) + 1) h h1 → AddsAtMost (length (fresh_outside area unread old updates) + 1) h h1
  outside_brief_at w = let P : ℕ → Type 0 = λ size. AddsAtMost (length (fresh_outside area unread size updates) + 1) h h1 in subst P e w
