use Rattle.std.proofs.Common.{◌<◌, ◌/◌, ◌%◌, min, ℕ, List, length, set, sym, ap, subst, ◌∙◌, arith}
use Rattle.std.specs.List.{concat}
use Rattle.std.proofs.Math.Seq.{map-set_same}
use Rattle.std.proofs.lemmas.List.{length-map, map-set}
use Rattle.freemap.specs.Kept.{IsGroup, BitBecomes}
use Rattle.freemap.proofs.PageLaws.{Shared, bytes_of, on_err, page_there, group_len, group_given, page_becomes, length_set}
use Rattle.freemap.proofs.group.Group.give.Goals as goal

pub index_mut-page-requires : goal.index_mut-page-requires
index_mut-page-requires c =
    let own = c.self.inside in
    let pages = bytes_of own.pages.items in
    omega (arith, group_len pages c.self.invariant.sectors, ap length c.self.view_is, c.requires, length-map own.pages.items (λ (p : Shared). p.value), own.pages.ok.0)

pub invariant_of-self : goal.invariant_of-self
invariant_of-self c =
    let own = c.self.inside in
    let page = c.index_mut-page.result.now in
    let same = map-set_same (λ (p : Shared). p.value) own.pages.items (c.args.place / 32768) c.give.new.page page
    (c.in_err-give.ensures.unchanged ∙ ap (λ (p : Shared). p.value) c.index_mut-page.ensures.value) in
    subst (λ (pages : List (List ℕ)). IsGroup pages own.first) (sym same) c.self.invariant

pub returns-in_err-give-clause-unchanged : goal.returns-in_err-give-clause-unchanged
returns-in_err-give-clause-unchanged c =
    let own = c.self.inside in
    let page = c.index_mut-page.result.now in
    let same = map-set_same (λ (p : Shared). p.value) own.pages.items (c.args.place / 32768) c.give.new.page page
    (c.in_err-give.ensures.unchanged ∙ ap (λ (p : Shared). p.value) c.index_mut-page.ensures.value) in
    on_err c.from_residual.result (ap concat same ∙ c.self.view_is)

pub invariant_of-self-2 : goal.invariant_of-self-2
invariant_of-self-2 c =
    let own = c.self.inside in
    let pages = bytes_of own.pages.items in
    let place = c.args.place in
    let page = c.index_mut-page.result.now in
    let new = c.give.new.page in
    let within : place / 32768 < length pages = omega (arith, group_len pages c.self.invariant.sectors, ap length c.self.view_is, c.requires) in
    let there : place / 32768 < length own.pages.items = omega (arith, within, length-map own.pages.items (λ (p : Shared). p.value)) in
    let old = page_there own.pages.items (place / 32768) page c.index_mut-page.ensures.value there in
    let becomes = subst (λ (bytes : List ℕ). BitBecomes bytes new.value (place % 32768) 0) old c.in_ok-give.ensures.bit in
    rw c.min-self-inside.ensures
    (subst (λ (ps : List (List ℕ)). IsGroup ps (min own.first place)) (sym (map-set (λ (p : Shared). p.value) own.pages.items (place / 32768) new))
    (group_given pages own.first c.self.invariant new.value c.in_ok-give.ensures.len place within becomes))

pub returns-clause-bit : goal.returns-clause-bit
returns-clause-bit c =
    let own = c.self.inside in
    let pages = bytes_of own.pages.items in
    let place = c.args.place in
    let page = c.index_mut-page.result.now in
    let new = c.give.new.page in
    let within : place / 32768 < length pages = omega (arith, group_len pages c.self.invariant.sectors, ap length c.self.view_is, c.requires) in
    let there : place / 32768 < length own.pages.items = omega (arith, within, length-map own.pages.items (λ (p : Shared). p.value)) in
    let old = page_there own.pages.items (place / 32768) page c.index_mut-page.ensures.value there in
    let becomes = subst (λ (bytes : List ℕ). BitBecomes bytes new.value (place % 32768) 0) old c.in_ok-give.ensures.bit in
    subst (λ (bytes : List ℕ). BitBecomes bytes (concat (bytes_of (set own.pages.items (place / 32768) new))) place 0) c.self.view_is
    (subst (λ (ps : List (List ℕ)). BitBecomes (concat pages) (concat ps) place 0) (sym (map-set (λ (p : Shared). p.value) own.pages.items (place / 32768) new))
    (page_becomes pages c.self.invariant.sectors new.value c.in_ok-give.ensures.len place within 0 becomes))

pub returns-clause-len : goal.returns-clause-len
returns-clause-len c =
    let own = c.self.inside in
    let pages = bytes_of own.pages.items in
    let place = c.args.place in
    let new = c.give.new.page in
    let within : place / 32768 < length pages = omega (arith, group_len pages c.self.invariant.sectors, ap length c.self.view_is, c.requires) in
    ap (λ (ps : List (List ℕ)). length (concat ps)) (map-set (λ (p : Shared). p.value) own.pages.items (place / 32768) new)
    ∙ (length_set pages c.self.invariant.sectors new.value c.in_ok-give.ensures.len place within ∙ ap length c.self.view_is)
