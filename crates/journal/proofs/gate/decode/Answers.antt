use Rattle.std.proofs.Common.{◌≡◌, ◌<◌, ℕ, List, length, drop, true, false, arith, sym, ◌∙◌, refl, ap, subst, IsTrue, ◌^◌}
use Rattle.byteorder.specs.Endian.{big_number}
use Rattle.journal.specs.Layout.{AreNamed, gate}
use Rattle.journal.proofs.GateWords.{count_in, names_one, pointwise_same}
use Rattle.journal.proofs.gate.decode.Goals as goal

pub returns-then-not-read_words-clause-missing : goal.returns-then-not-read_words-clause-missing
returns-then-not-read_words-clause-missing c = λ f to names.
    let many = c.if-not-read_words.ensures.many refl in
    let count : big_number 4 (drop 4 c.args.sector.now) ≡ length to =
    ap (λ (xs : List ℕ). big_number 4 (drop 4 xs)) names.gate_is ∙ count_in to (omega (arith, names.few, c.requires.area.few)) in
    omega (arith, many, count, names.few)

pub returns-then-are_targets-clause-missing : goal.returns-then-are_targets-clause-missing
returns-then-are_targets-clause-missing c = λ f to names.
    let small : c.args.area.end < 2 ^ 32 = omega arith in
    let read = c.if-not-read_words.ensures.named refl in
    let same : c.read_words.new.named.items ≡ to = read.1 ∙ names_one c.args.area c.requires.area c.args.sector.now to small names in
    let encoded : c.encode.result ≡ c.args.sector.now =
    c.encode.ensures ∙ ap (λ (xs : List ℕ). gate xs) (c.deref-then-are_targets.ensures.value ∙ same) ∙ sym names.gate_is in
    let equal : c.eq.result ≡ true = c.eq.ensures
    ∙ pointwise_same c.as_slice.result.now c.as_slice-then-are_targets.result.now (c.as_slice.ensures ∙ encoded ∙ sym c.as_slice-then-are_targets.ensures) in
    let never : true ≡ false = sym equal ∙ f in cc

pub returns-else-are_targets-clause-missing : goal.returns-else-are_targets-clause-missing
returns-else-are_targets-clause-missing c = λ f to names.
    let small : c.args.area.end < 2 ^ 32 = omega arith in
    let read = c.if-not-read_words.ensures.named refl in
    let same : c.deref.result.now ≡ to = c.deref.ensures.value ∙ read.1 ∙ names_one c.args.area c.requires.area c.args.sector.now to small names in
    let P : List ℕ → Type 0 = λ xs. AreNamed c.args.area xs in
    let yes : IsTrue c.are_targets.result = c.are_targets.ensures.1 (subst P (sym same) names.fit) in
    let never : true ≡ false = sym yes ∙ f in cc
