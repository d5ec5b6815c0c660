use Rattle.std.proofs.Common.{◌≡◌, ◌≢◌, ◌∙◌, [], get_or, inl, inr, refl, ap, sym, arith}
use Rattle.std.proofs.lemmas.Bool.{cases_eq}
use Rattle.directory.specs.Records.{Record, record_from, place_of}
use Rattle.directory.proofs.Apart.{apart_places, not_apart}
use Rattle.directory.proofs.names.are_apart.Goals as goal

pub returns-then-place_in-place : goal.returns-then-place_in-place
returns-then-place_in-place c =
    let records = c.args.records.now in
    let nothing = record_from 0 [] 0 in
    let i = c.loop-place.place in
    let named : (get_or records i nothing).1.name ≡ c.deref.result.now = ap (λ (r : Record). r.1.name) (c.get.ensures nothing) ∙ sym c.deref.ensures.value in
    let elsewhere : place_of (get_or records i nothing).1.name records ≢ i =
    λ same. c.if-place_in-place.true (c.place_in.ensures.place ∙ (ap (λ n. place_of n records) (sym named) ∙ same)) in
    (λ told. cc, λ apart. absurd (not_apart records i nothing (omega (arith, c.loop-place-test.true, c.len-place-end.ensures)) elsewhere apart))

pub loop-place-preserved : goal.loop-place-preserved
loop-place-preserved c =
    let records = c.args.records.now in
    let i = c.loop-place.place in
    λ k d below. elim (cases_eq k i) [
      | inl same ↦
          ap (λ n. place_of (get_or records n d).1.name records) same
          ∙ (ap (λ (r : Record). place_of r.1.name records) (c.get.ensures d)
          ∙ (ap (λ n. place_of n records) (sym c.deref.ensures.value) ∙ (sym c.place_in.ensures.place ∙ (c.if-place_in-place.false ∙ sym same))))
      | inr apart ↦ c.loop-place.invariant k d (omega arith)
    ]

pub returns : goal.returns
returns c =
    (λ told. apart_places c.args.records.now (λ k d within. c.loop-place.invariant k d (omega (arith, c.loop-place-test.false, c.len-place-end.ensures))), λ apart. refl)
