use Rattle.std.proofs.Common.{Bool, Ok, map, ◌≡◌, ◌<◌, ◌≤◌, ◌++◌, ◌∷◌, [], ap, inr, length, arith, ◌∙◌}
use Rattle.std.specs.Int.{w32}
use Rattle.std.proofs.lemmas.Result.{err_from_is_err_and}
use Rattle.std.proofs.lemmas.List.{map_push}
use Rattle.xdr.specs.Grammar.{◌>>=◌, number_at}
use Rattle.xdr.specs.Forms.{links_at, truth_at}
use Rattle.model.specs.Wire.WireAnswers.{entry}
use Rattle.wire.specs.AnswerViews.{entry_view}
use Rattle.wire_client.proofs.Chains.{chain_on, chain_ends, chain_lost, chain_broken, chain_long}
use Rattle.wire_client.proofs.answers.each_entry.Goals as goal

pub returns-in_err-read_bool : goal.returns-in_err-read_bool
returns-in_err-read_bool c =
    let p = err_from_is_err_and c.from_residual.result c.from_residual.ensures.1 in
    let lt : c.loop.counter < length c.args.at = omega (arith, c.loop-test.true, c.len-end.ensures) in
    rw (p.1, p.2) (inr
    (chain_lost entry.read (map entry_view c.loop.entries.items) (length c.args.at) c.loop.counter c.loop.at c.in_err-read_bool.field-0.0
    (links_at entry.read (length c.args.at) c.args.at) lt c.in_err-read_bool.ensures.0 c.loop.invariant))

pub returns-then-not-branch : goal.returns-then-not-branch
returns-then-not-branch c =
    let lt : c.loop.counter < length c.args.at = omega (arith, c.loop-test.true, c.len-end.ensures) in
    let none : (number_at w32 c.loop.at >>= truth_at) ≡ Ok (Bool.false, c.read_bool.new.self) =
    c.in_ok-read_bool.ensures ∙ ap (λ (b : Bool). Ok (b, c.read_bool.new.self)) c.if-not-branch.true in
    chain_ends entry.read (map entry_view c.loop.entries.items) (length c.args.at) c.loop.counter c.loop.at c.read_bool.new.self
    (links_at entry.read (length c.args.at) c.args.at) lt none c.loop.invariant

pub returns-in_err-entry : goal.returns-in_err-entry
returns-in_err-entry c =
    let p = err_from_is_err_and c.from_residual-in_err-entry.result c.from_residual-in_err-entry.ensures.1 in
    let lt : c.loop.counter < length c.args.at = omega (arith, c.loop-test.true, c.len-end.ensures) in
    let more : (number_at w32 c.loop.at >>= truth_at) ≡ Ok (Bool.true, c.read_bool.new.self) =
    c.in_ok-read_bool.ensures ∙ ap (λ (b : Bool). Ok (b, c.read_bool.new.self)) c.if-not-branch.false in
    rw (p.1, p.2) (inr
    (chain_broken entry.read (map entry_view c.loop.entries.items) (length c.args.at) c.loop.counter c.loop.at c.read_bool.new.self c.in_err-entry.field-0.0
    (links_at entry.read (length c.args.at) c.args.at) lt more c.in_err-entry.ensures.0 c.loop.invariant))

pub loop-preserved : goal.loop-preserved
loop-preserved c =
    let one = entry_view c.in_ok-entry.entry in
    let e : map entry_view c.push.new.self.items ≡ map entry_view c.loop.entries.items ++ one ∷ [] =
    rw c.in_ok-push.ensures.items (map_push entry_view c.loop.entries.items c.in_ok-entry.entry) in
    let lt : c.loop.counter < length c.args.at = omega (arith, c.loop-test.true, c.len-end.ensures) in
    let more : (number_at w32 c.loop.at >>= truth_at) ≡ Ok (Bool.true, c.read_bool.new.self) =
    c.in_ok-read_bool.ensures ∙ ap (λ (b : Bool). Ok (b, c.read_bool.new.self)) c.if-not-branch.false in
    rw e
    (chain_on entry.read (map entry_view c.loop.entries.items) (length c.args.at) c.loop.counter c.loop.at c.read_bool.new.self c.read_entry.new.r one
    (links_at entry.read (length c.args.at) c.args.at) lt more c.in_ok-entry.ensures c.loop.invariant)

pub returns : goal.returns
returns c =
    let le : length c.args.at ≤ c.loop.counter = omega (arith, c.loop-test.false, c.len-end.ensures) in
    inr
    (chain_long entry.read (map entry_view c.loop.entries.items) (length c.args.at) c.loop.counter c.loop.at
    (links_at entry.read (length c.args.at) c.args.at) le c.loop.invariant)
