-- A COMPOUND between its turns, in the record that an assembler holds.
use Rattle.std.proofs.Common.{◌≡◌, ℕ, true, List, Option, Some, None, ◌<◌, refl, sym, subst, ◌∙◌}
use Rattle.std.proofs.lemmas.Bool.{and_parts}
use Rattle.compound.specs.Steps as compound
use Rattle.compound.specs.Steps.{GoesFurther}
use Rattle.compound.specs.Views.{fits_operations}
use Rattle.compound.specs.declared.step.Stepped.{Stepped}
use Rattle.compound.specs.declared.step.Stepped.TheVariants as stepped
use Rattle.compound.proofs.Resuming.{fits_more}
use Rattle.model.specs.Server.World.{InProgress, Busy}
use Rattle.rpc.specs.Assembly.{Assembly, Gathers, Holds, Refuses}
use Rattle.rpc.specs.Places.{is_within}
use Rattle.server.specs.declared.begun.Begun.{Begun}
use Rattle.server.specs.Connections.{IsOfRun, HasGoneOn, RecordGoesOn}
use Rattle.server.specs.Stages.{CanGoOn, asked_at, in_progress_at, fits_in, held_record, busy_with, can_go_on, left_of, left_by_turn}

-- one that has begun has its record, and is of its run
pub goes_on_held : (run : ℕ) (assembly : Assembly) (begun : Begun) → can_go_on (held_record assembly) begun ≡ true → IsOfRun run (busy_with (held_record assembly) begun)
    → (request : List ℕ) × (assembly ≡ Holds request) × CanGoOn run request begun
goes_on_held run (Gathers bytes) begun can here = let never : ⊥ = cc in absurd never
goes_on_held run (Holds request) begun can here = (request, refl, record { can = can; began_in = here (in_progress_at request begun) refl })
goes_on_held run (Refuses fault) begun can here = let never : ⊥ = cc in absurd never

one_held : (request other : List ℕ) → Holds request ≡ Holds other → request ≡ other
one_held request other is = cc

-- whichever name the record has
pub goes_on_as : (run : ℕ) (assembly : Assembly) (request other : List ℕ) (begun : Begun) → assembly ≡ Holds request → assembly ≡ Holds other → CanGoOn run request begun → CanGoOn run other begun
goes_on_as run assembly request other begun is also can =
    subst (λ (one : List ℕ). CanGoOn run one begun) (one_held request other (sym is ∙ also)) can

-- and has operations left, unless it has ended
pub some_more : (held : Option (List ℕ)) (begun : Begun) (request : InProgress) → can_go_on held begun ≡ true → busy_with held begun ≡ Busy request
    → request.ended ≡ None → request.answered < request.count
some_more None begun request can is = let never : ⊥ = cc in absurd never
some_more (Some bytes) begun request can is =
    let same : in_progress_at bytes begun ≡ request = cc in
    let fit = (and_parts (is_within bytes begun.call.place) (fits_operations (asked_at bytes begun.call) begun.progress) can).1 in
    subst (λ (r : InProgress). r.ended ≡ None → r.answered < r.count) same (fits_more (asked_at bytes begun.call) begun.progress fit)

pub stands_within : (bytes : List ℕ) (begun : Begun) → fits_in bytes begun.call begun.progress ≡ true → is_within bytes begun.call.place ≡ true
stands_within bytes begun can = (and_parts (is_within bytes begun.call.place) (fits_operations (asked_at bytes begun.call) begun.progress) can).0

-- after a step of it
gone_on : (bytes : List ℕ) (begun : Begun) (done : Stepped) → GoesFurther (in_progress_at bytes begun) done
    → HasGoneOn (Some (Busy (in_progress_at bytes begun))) (Some (left_by_turn (Some bytes) (left_of begun.call done)))
gone_on bytes begun (stepped.Ran progress) further = (further.0, further.1, refl)
gone_on bytes begun (stepped.Answered reply) further = tt

pub steps_on : (run : ℕ) (bytes : List ℕ) (begun : Begun) (done : Stepped) → is_within bytes begun.call.place ≡ true
    → compound.RequestGoesOn run (asked_at bytes begun.call) (in_progress_at bytes begun) done → RecordGoesOn run bytes begun (left_of begun.call done)
steps_on run bytes begun (stepped.Ran progress) within goes =
    let fit : fits_operations (asked_at bytes begun.call) progress ≡ true = goes.fits in
    record { stays = goes.stays; further = gone_on bytes begun (stepped.Ran progress) goes.further; follows = rw (within, fit) refl }
steps_on run bytes begun (stepped.Answered reply) within goes = record { stays = tt; further = tt; follows = refl }
