use Rattle.std.proofs.Common.{◌≡◌, ◌≤◌, ◌+◌, ◌++◌, ◌∙◌, ℕ, List, length, ap, arith, sym, take}
use Rattle.std.proofs.lemmas.List.{append-nil, drop_all}
use Rattle.std.proofs.Math.Seq.{take-length}
use Rattle.disk.specs.Calls.{zero_sector}
use Rattle.disk.specs.Moments.{applied, put}
use Rattle.sector.specs.Placed.{placed}
use Rattle.tree_transaction.proofs.BlockLaws.{zeros-are, length-zero}
use Rattle.tree_transaction.proofs.blocks.write_new.Goals as goal

-- bytes of a whole sector are the sector
whole_is : (from : ℕ) (bytes chunk : List ℕ) → from + length bytes ≤ 4096 → 4096 ≤ length bytes → chunk ≡ take 4096 bytes → chunk ≡ placed zero_sector from bytes
whole_is from bytes chunk room enough same =
    let is_all : length bytes ≡ 4096 = omega (arith, enough) in
    let is_first : from ≡ 0 = omega (arith, enough) in
    same ∙ ap (λ (n : ℕ). take n bytes) (sym is_all) ∙ take-length bytes ∙ sym (append-nil bytes)
    ∙ ap (λ (rest : List ℕ). bytes ++ rest) (sym (drop_all (0 + length bytes) zero_sector (omega (arith, is_all, length-zero))))
    ∙ ap (λ (n : ℕ). placed zero_sector n bytes) (sym is_first)

pub returns-in-Some-clause-image : goal.returns-in-Some-clause-image
returns-in-Some-clause-image c = λ image. c.in_ok-put.ensures.image image
    ∙ ap (λ (content : List ℕ). put (applied c.args.updates.now image) (record { target = c.args.sector; content = content }))
    (whole_is c.args.from c.args.bytes.now c.in-Some.whole.now c.requires.room c.in-Some.ensures.cases.enough c.in-Some.ensures.cases.same)

pub returns-clause-image : goal.returns-clause-image
returns-clause-image c = λ image. c.in_ok-put-2.ensures.image image
    ∙ ap (λ (content : List ℕ). put (applied c.args.updates.now image) (record { target = c.args.sector; content = content }))
    (c.put_bytes.ensures.whole ∙ ap (λ (zeros : List ℕ). placed zeros c.args.from c.args.bytes.now) zeros-are)
