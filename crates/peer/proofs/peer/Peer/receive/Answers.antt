use Rattle.std.proofs.Common.{◌≡◌, ◌<◌, [], Ok, Some, None, inr, length, true, refl, sym, ◌∙◌, arith, rules}
use Rattle.std.proofs.lemmas.List.{nil_from_length}
use Rattle.std.proofs.lemmas.Result.{err_from_is_err_and}
use Rattle.std.specs.IoError.{error_kind}
use Rattle.std.specs.declared.io.ErrorKind.TheVariants as kinds
use Rattle.peer.specs.Steps.{Read_over, Read_broken}
use Rattle.peer.proofs.Carried.{dry_has_none, interrupted, quiet, reads_then}
use Rattle.peer.proofs.Tallies.{consumes_kept, consumes_none}
use Rattle.peer.proofs.peer.Peer.receive.Goals as goal

pub returns-then-not-self-clause-does : goal.returns-then-not-self-clause-does
returns-then-not-self-clause-does g c =
    let dry : g.S.Stream.read_told c.args.self.now.stream (Some kinds.WouldBlock) ≡ true = search rules in
    quiet c.args.server.now c.args.self.now c.args.self.now _ (consumes_none _) refl refl refl refl
    (dry_has_none c.args.self.now c.requires.gathers c.requires.empty) (λ gathers. inr (Some kinds.WouldBlock, dry)) (λ is. let never : ⊥ = cc in absurd never) tt

pub returns-in_err-self-in-Err-clause-does : goal.returns-in_err-self-in-Err-clause-does
returns-in_err-self-in-Err-clause-does g c =
    let told = err_from_is_err_and c.from_residual.result c.from_residual.ensures.1 in
    let over = c.in_err-self-in-Err.ensures.err in
    rw (told.1, told.2, over.0)
    (quiet c.args.server.now c.args.self.now _ _ (consumes_kept _ _ c.in-Err.ensures.err.1) (c.in-Err.ensures.err.0 ∙ sym c.requires.empty)
    c.fill.ensures.kept.0 refl refl (dry_has_none c.args.self.now c.requires.gathers c.requires.empty) (λ gathers. inr (Some (error_kind c.in-Err.error), c.in-Err.ensures.told))
    (λ is. let never : ⊥ = cc in absurd never) (Read_over (Some (error_kind c.in-Err.error)) over.1 c.in-Err.ensures.told))

pub returns-in-Ok-eq0-clause-does : goal.returns-in-Ok-eq0-clause-does
returns-in-Ok-eq0-clause-does g c =
    let none : c.in-Ok-eq0.field-0 ≡ 0 = first_of (omega arith, search rules) in
    let unread : c.fill.new.self ≡ [] = nil_from_length c.fill.new.self (c.in-Ok-eq0.ensures.ok.0 ∙ none) in
    quiet c.args.server.now c.args.self.now _ _ (rw unread at c.in-Ok-eq0.ensures.ok.1) (unread ∙ sym c.requires.empty)
    c.fill.ensures.kept.0 refl refl (dry_has_none c.args.self.now c.requires.gathers c.requires.empty) (λ gathers. inr (None, c.in-Ok-eq0.ensures.told none))
    (λ is. let never : ⊥ = cc in absurd never)
    (Read_over None (λ is. let never : ⊥ = cc in never, λ is. let never : ⊥ = cc in never) (c.in-Ok-eq0.ensures.told none))

pub returns-in-Ok-clause-does : goal.returns-in-Ok-clause-does
returns-in-Ok-clause-does g c =
    let some : 0 < length c.fill.new.self = omega (arith, c.in-Ok.ensures.ok.0) in
    reads_then c.args.self.now _ c.hand_over.new.self c.hand_over.result c.in-Ok.ensures.ok.1 c.requires.gathers c.requires.empty some
    c.fill.ensures.kept.0 refl refl c.hand_over.ensures.does

pub returns-in_ok-self-in-Err-clause-does : goal.returns-in_ok-self-in-Err-clause-does
returns-in_ok-self-in-Err-clause-does g c =
    quiet c.args.server.now c.args.self.now _ _ (consumes_kept _ _ c.in-Err.ensures.err.1) (c.in-Err.ensures.err.0 ∙ sym c.requires.empty)
    c.fill.ensures.kept.0 refl refl (dry_has_none c.args.self.now c.requires.gathers c.requires.empty) (λ gathers. inr (Some (error_kind c.in-Err.error), c.in-Err.ensures.told))
    (λ is. Read_broken
    (interrupted (g.S.Stream.read_told c.fill.new.stream) (error_kind c.in-Err.error) c.in_ok-self-in-Err.field-0 c.pace_of.result (Ok c.pace_of.result) refl
    c.in_ok-self-in-Err.ensures.ok c.pace_of.ensures c.in-Err.ensures.told is)) tt
