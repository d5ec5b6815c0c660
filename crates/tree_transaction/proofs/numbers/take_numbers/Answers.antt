use Rattle.std.proofs.Common.{◌+◌, ◌∷◌, [], ℕ, List, Bool, true, length, ap, sym, ◌∙◌, arith}
use Rattle.std.proofs.lemmas.List.{length-append, length-set}
use Rattle.std.specs.Prelude.{Err}
use Rattle.freemap.specs.Kept.{free_places}
use Rattle.freemap.specs.declared.fault.TakeFault.{TakeFault}
use Rattle.layout.specs.Marks.{times, mark_by}
use Rattle.tree_transaction.proofs.CountLaws.{takes_free, none_free}
use Rattle.tree_transaction.specs.Faults.{space_fault_of}
use Rattle.tree_transaction.specs.declared.fault.SpaceFault.TheVariants as space
use Rattle.tree_transaction.proofs.FaultLaws.{told, full_take_of}
use Rattle.tree_transaction.proofs.NumberLaws.{follow-take}
use Rattle.tree_transaction.proofs.numbers.take_numbers.Goals as goal

pub returns-in_err-place-clause-full : goal.returns-in_err-place-clause-full
returns-in_err-place-clause-full c full =
    let cause = c.in_err-place.field-0.0 in
    let is_full = full_take_of cause (told c.from_residual.result (space_fault_of cause) space.Full c.from_residual.ensures.1 full) in
    let none = none_free c.loop-places.places (c.in_err-place.ensures.full (ap (λ (f : TakeFault). Err f) is_full)) in
    omega (arith, none, c.loop-places.invariant.free, c.loop-places-test.true)

pub loop-places-preserved : goal.loop-places-preserved
loop-places-preserved c = let a = c.in_ok-place.ensures.taken in let b = c.in_ok-push.ensures.items in let long = ap length b in record {
  marks = λ n. ap (λ (p : List Bool). mark_by c.args.first p n + times n c.args.numbers.now.items) a
      ∙ follow-take c.args.first c.args.places.now c.loop-places.places c.args.numbers.now.items c.loop-places.numbers.items c.in_ok-place.place c.loop-places.invariant.marks c.in_ok-place.ensures.free n
      ∙ ap (λ (ns : List ℕ). mark_by c.args.first c.args.places.now n + times n ns) (sym b);
  most = omega (arith, length-append c.loop-places.numbers.items ((c.args.first + c.in_ok-place.place) ∷ []));
  len = ap length a ∙ length-set c.loop-places.places c.in_ok-place.place true ∙ c.loop-places.invariant.len;
  free = omega (arith, ap free_places a, takes_free c.loop-places.places c.in_ok-place.place c.in_ok-place.ensures.free, length-append c.loop-places.numbers.items ((c.args.first + c.in_ok-place.place) ∷ []), c.loop-places.invariant.free);
}
