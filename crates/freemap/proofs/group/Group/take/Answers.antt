use Rattle.std.proofs.Common.{◌<◌, ◌≤◌, ◌/◌, ◌%◌, ◌*◌, ℕ, List, length, set, sym, ap, subst, ◌∙◌, arith}
use Rattle.std.specs.List.{concat}
use Rattle.std.proofs.Math.Seq.{map-set_same}
use Rattle.std.proofs.lemmas.List.{length-map, length-set, map-set}
use Rattle.freemap.specs.Kept.{IsGroup, AreSectors, IsSetBelow, IsFirstClear, BitBecomes}
use Rattle.freemap.proofs.PageLaws.{Shared, bytes_of, on_err, page_there, group_len, made_group, sectors_set, still_set, page_becomes, length_set}
use Rattle.freemap.proofs.group.Group.take.Goals as goal

pub index_mut-page-requires : goal.index_mut-page-requires
index_mut-page-requires c =
    let own = c.self.inside in
    let pages = bytes_of own.pages.items in
    omega (arith, group_len pages c.self.invariant.sectors, ap length c.self.view_is, c.requires, length-map own.pages.items (λ (p : Shared). p.value), own.pages.ok.0)

pub invariant_of-self : goal.invariant_of-self
invariant_of-self c =
    let own = c.self.inside in
    let page = c.index_mut-page.result.now in
    let same = map-set_same (λ (p : Shared). p.value) own.pages.items (c.args.place / 32768) c.take.new.page page
    (c.in_err-take.ensures.unchanged ∙ ap (λ (p : Shared). p.value) c.index_mut-page.ensures.value) in
    subst (λ (pages : List (List ℕ)). IsGroup pages own.first) (sym same) c.self.invariant

pub returns-in_err-take-clause-unchanged : goal.returns-in_err-take-clause-unchanged
returns-in_err-take-clause-unchanged c =
    let own = c.self.inside in
    let page = c.index_mut-page.result.now in
    let same = map-set_same (λ (p : Shared). p.value) own.pages.items (c.args.place / 32768) c.take.new.page page
    (c.in_err-take.ensures.unchanged ∙ ap (λ (p : Shared). p.value) c.index_mut-page.ensures.value) in
    on_err c.from_residual.result (ap concat same ∙ c.self.view_is)

pub first_clear-self-inside-requires-clause-sectors : goal.first_clear-self-inside-requires-clause-sectors
first_clear-self-inside-requires-clause-sectors c =
    let own = c.self.inside in
    let pages = bytes_of own.pages.items in
    let place = c.args.place in
    let page = c.index_mut-page.result.now in
    let new = c.take.new.page in
    let within : place / 32768 < length pages = omega (arith, group_len pages c.self.invariant.sectors, ap length c.self.view_is, c.requires) in
    subst (λ (ps : List (List ℕ)). AreSectors ps) (sym (ap bytes_of c.deref.ensures.value ∙ map-set (λ (p : Shared). p.value) own.pages.items (place / 32768) new))
    (sectors_set pages c.self.invariant.sectors new.value c.in_ok-take.ensures.len place within)

pub first_clear-self-inside-requires-clause-below : goal.first_clear-self-inside-requires-clause-below
first_clear-self-inside-requires-clause-below c =
    let own = c.self.inside in
    let pages = bytes_of own.pages.items in
    let place = c.args.place in
    let page = c.index_mut-page.result.now in
    let new = c.take.new.page in
    let within : place / 32768 < length pages = omega (arith, group_len pages c.self.invariant.sectors, ap length c.self.view_is, c.requires) in
    let there : place / 32768 < length own.pages.items = omega (arith, within, length-map own.pages.items (λ (p : Shared). p.value)) in
    let old = page_there own.pages.items (place / 32768) page c.index_mut-page.ensures.value there in
    let becomes = subst (λ (bytes : List ℕ). BitBecomes bytes new.value (place % 32768) 1) old c.in_ok-take.ensures.bit in
    subst (λ (ps : List (List ℕ)). IsSetBelow (concat ps) own.first) (sym (ap bytes_of c.deref.ensures.value ∙ map-set (λ (p : Shared). p.value) own.pages.items (place / 32768) new))
    (still_set pages own.first c.self.invariant new.value c.in_ok-take.ensures.len place within becomes)

pub invariant_of-self-2 : goal.invariant_of-self-2
invariant_of-self-2 c =
    let own = c.self.inside in
    let pages = bytes_of own.pages.items in
    let place = c.args.place in
    let page = c.index_mut-page.result.now in
    let new = c.take.new.page in
    let within : place / 32768 < length pages = omega (arith, group_len pages c.self.invariant.sectors, ap length c.self.view_is, c.requires) in
    let same = map-set (λ (p : Shared). p.value) own.pages.items (place / 32768) new in
    let few : length (set own.pages.items (place / 32768) new) ≤ 128 =
    omega (arith, c.self.invariant.few, length-set own.pages.items (place / 32768) new, length-map own.pages.items (λ (p : Shared). p.value)) in
    made_group (set own.pages.items (place / 32768) new) c.first_clear-self-inside.result few
    (subst (λ (ps : List (List ℕ)). AreSectors ps) (sym same) (sectors_set pages c.self.invariant.sectors new.value c.in_ok-take.ensures.len place within))
    (subst (λ (ps : List Shared). IsFirstClear (concat (bytes_of ps)) (32768 * length ps) c.first_clear-self-inside.result) c.deref.ensures.value c.first_clear-self-inside.ensures)

pub returns-clause-bit : goal.returns-clause-bit
returns-clause-bit c =
    let own = c.self.inside in
    let pages = bytes_of own.pages.items in
    let place = c.args.place in
    let page = c.index_mut-page.result.now in
    let new = c.take.new.page in
    let within : place / 32768 < length pages = omega (arith, group_len pages c.self.invariant.sectors, ap length c.self.view_is, c.requires) in
    let there : place / 32768 < length own.pages.items = omega (arith, within, length-map own.pages.items (λ (p : Shared). p.value)) in
    let old = page_there own.pages.items (place / 32768) page c.index_mut-page.ensures.value there in
    let becomes = subst (λ (bytes : List ℕ). BitBecomes bytes new.value (place % 32768) 1) old c.in_ok-take.ensures.bit in
    subst (λ (bytes : List ℕ). BitBecomes bytes (concat (bytes_of (set own.pages.items (place / 32768) new))) place 1) c.self.view_is
    (subst (λ (ps : List (List ℕ)). BitBecomes (concat pages) (concat ps) place 1) (sym (map-set (λ (p : Shared). p.value) own.pages.items (place / 32768) new))
    (page_becomes pages c.self.invariant.sectors new.value c.in_ok-take.ensures.len place within 1 becomes))

pub returns-clause-len : goal.returns-clause-len
returns-clause-len c =
    let own = c.self.inside in
    let pages = bytes_of own.pages.items in
    let place = c.args.place in
    let new = c.take.new.page in
    let within : place / 32768 < length pages = omega (arith, group_len pages c.self.invariant.sectors, ap length c.self.view_is, c.requires) in
    ap (λ (ps : List (List ℕ)). length (concat ps)) (map-set (λ (p : Shared). p.value) own.pages.items (place / 32768) new)
    ∙ (length_set pages c.self.invariant.sectors new.value c.in_ok-take.ensures.len place within ∙ ap length c.self.view_is)
