-- CREATE_SESSION by its cases.
use Rattle.std.proofs.Common.{◌≡◌, ℕ, ◌-◌, ◌<◌, ◌^◌, Bool, true, false, cond, ◌&&◌, ◌==◌, nat_le, [], ◌∷◌, ◌++◌, length, Option, None, Some, Ok, refl, ap, ◌∙◌, find, leb-false}
use Rattle.std.specs.Option.{option_map}
use Rattle.model_tree.specs.declared.status.Status.{Status}
use Rattle.model_tree.specs.declared.status.Status.TheVariants as status
use Rattle.model.specs.Operations.Operation.{CreateSessionArguments}
use Rattle.model.specs.Operations.Answer.{CreateSessionAnswer}
use Rattle.model_tree.specs.Refusals.Refusal.{Refusals, first_refusal, refused_or}
use Rattle.model.specs.Sessions.Session.{Client, Table, SessionLimits, CreateSessionOutcome, create_session, create_by, create_again, create_unless, create_refused, create_refusals, is_client, next_number, is_full_of_sessions, staying, replaced_by, is_of_clients, is_running}
use Rattle.model_tree.proofs.Facts.BooleanLaws.{second_of_neither}
use Rattle.std.specs.List.{list_any}
use Rattle.session.specs.Rooms.{argument_refusals, room_refusals}

-- Tests one after the other

prefix_head : (test : Bool) (reason s : Status) (others rest : Option Status) → (others ≡ Some s → rest ≡ Some s) → refused_or test reason others ≡ Some s → refused_or test reason rest ≡ Some s
prefix_head true reason s others rest step e = e
prefix_head false reason s others rest step e = step e

first_prefix : (prefix rest : Refusals) (s : Status) → first_refusal prefix ≡ Some s → first_refusal (prefix ++ rest) ≡ Some s
first_prefix [] rest s e = cc
first_prefix (test ∷ prefix) rest s e = prefix_head test.0 test.1 s (first_refusal prefix) (first_refusal (prefix ++ rest)) (first_prefix prefix rest s) e

back_head : (test : Bool) (reason : Status) (others rest back : Option Status) → (others ≡ None → rest ≡ back) → refused_or test reason others ≡ None → refused_or test reason rest ≡ back
back_head true reason others rest back step e = cc
back_head false reason others rest back step e = step e

first_back : (prefix rest : Refusals) → first_refusal prefix ≡ None → first_refusal (prefix ++ rest) ≡ first_refusal rest
first_back [] rest e = refl
first_back (test ∷ prefix) rest e = back_head test.0 test.1 (first_refusal prefix) (first_refusal (prefix ++ rest)) (first_refusal rest) (first_back prefix rest) e

module _ (limits : SessionLimits) where
  pub refused_by_arguments : (arguments : CreateSessionArguments) (client : Client) (table : Table) (s : Status)
      → first_refusal (argument_refusals limits client.sequence arguments) ≡ Some s → first_refusal (create_refusals limits arguments client table) ≡ Some s
  refused_by_arguments arguments client table s e = first_prefix (argument_refusals limits client.sequence arguments) (room_refusals limits client table) s e

  pub refused_by_room : (arguments : CreateSessionArguments) (client : Client) (table : Table)
      → first_refusal (argument_refusals limits client.sequence arguments) ≡ None → first_refusal (create_refusals limits arguments client table) ≡ first_refusal (room_refusals limits client table)
  refused_by_room arguments client table e = first_back (argument_refusals limits client.sequence arguments) (room_refusals limits client table) e

  two_head : (a b : Bool) (s t : Status) → refused_or a s (refused_or b t None) ≡ None → b ≡ false
  two_head true b s t e = cc
  two_head false true s t e = cc
  two_head false false s t e = refl

  -- if there is room, a serial is left
  pub serial_left : (client : Client) (table : Table) → first_refusal (room_refusals limits client table) ≡ None → table.session_serial < 2 ^ 64 - 1
  serial_left client table e =
      leb-false (2 ^ 64 - 1) table.session_serial
      (second_of_neither (nat_le limits.sessions (length (staying client table))) (nat_le (2 ^ 64 - 1) table.session_serial)
      (two_head (list_any (λ session. is_of_clients (replaced_by client table) session && is_running session) table.sessions) (is_full_of_sessions limits client table) status.Delay status.Delay e))

  -- The cases of CREATE_SESSION

  pub create_unknown : (uid : ℕ) (arguments : CreateSessionArguments) (table : Table) → find (is_client arguments.client) table.clients ≡ None → create_session limits uid arguments table ≡ create_refused status.StaleClientId table
  unfolding create_session
  create_unknown uid arguments table e = ap (create_by limits uid arguments table) e

  pub create_other : (uid : ℕ) (arguments : CreateSessionArguments) (table : Table) (client : Client) → find (is_client arguments.client) table.clients ≡ Some client → (client.principal == uid) ≡ false
      → create_session limits uid arguments table ≡ create_refused status.ClidInUse table
  unfolding create_session
  create_other uid arguments table client e other =
      ap (create_by limits uid arguments table) e
      ∙ ap (λ b. cond b (create_again limits arguments client table client.kept) (create_refused status.ClidInUse table)) other

  pub create_same : (uid : ℕ) (arguments : CreateSessionArguments) (table : Table) (client : Client) → find (is_client arguments.client) table.clients ≡ Some client → (client.principal == uid) ≡ true
      → create_session limits uid arguments table ≡ create_again limits arguments client table client.kept
  unfolding create_session
  create_same uid arguments table client e principal =
      ap (create_by limits uid arguments table) e
      ∙ ap (λ b. cond b (create_again limits arguments client table client.kept) (create_refused status.ClidInUse table)) principal

  abbrev kept_answer : CreateSessionAnswer → Table → CreateSessionOutcome
  kept_answer answer table = record { answer = Ok answer; ended_clients = []; table = table }

  repeats_when : {A : Type 0} (view : A → CreateSessionAnswer) (arguments : CreateSessionArguments) (client : Client) (table : Table) (b : Bool) (kept : Option A) (answer : A)
      → (next_number arguments.sequence == client.sequence) ≡ b → cond b kept None ≡ Some answer
      → create_again limits arguments client table (option_map view kept) ≡ kept_answer (view answer) table
  repeats_when view arguments client table true None answer same e = cc
  repeats_when view arguments client table true (Some known) answer same e =
      ap (λ b. cond b (kept_answer (view known) table) (create_unless limits arguments client table (first_refusal (create_refusals limits arguments client table)))) same
      ∙ ap (λ answer. kept_answer answer table) (let is : view known ≡ view answer = cc in is)
  repeats_when view arguments client table false kept answer same e = cc

  -- the number before the record's next, and its result is kept
  pub repeats : {A : Type 0} (view : A → CreateSessionAnswer) (arguments : CreateSessionArguments) (client : Client) (table : Table) (kept : Option A) (answer : A)
      → cond (next_number arguments.sequence == client.sequence) kept None ≡ Some answer
      → create_again limits arguments client table (option_map view kept) ≡ record { answer = Ok (view answer); ended_clients = []; table = table }
  repeats view arguments client table kept answer e = repeats_when view arguments client table (next_number arguments.sequence == client.sequence) kept answer refl e

  counts_when : {A : Type 0} (view : A → CreateSessionAnswer) (arguments : CreateSessionArguments) (client : Client) (table : Table) (b : Bool) (kept : Option A)
      → (next_number arguments.sequence == client.sequence) ≡ b → cond b kept None ≡ None
      → create_again limits arguments client table (option_map view kept) ≡ create_unless limits arguments client table (first_refusal (create_refusals limits arguments client table))
  counts_when view arguments client table b None same e = refl
  counts_when view arguments client table true (Some known) same e = cc
  counts_when view arguments client table false (Some known) same e =
      ap (λ b. cond b (kept_answer (view known) table) (create_unless limits arguments client table (first_refusal (create_refusals limits arguments client table)))) same

  pub counts : {A : Type 0} (view : A → CreateSessionAnswer) (arguments : CreateSessionArguments) (client : Client) (table : Table) (kept : Option A)
      → cond (next_number arguments.sequence == client.sequence) kept None ≡ None
      → create_again limits arguments client table (option_map view kept) ≡ create_unless limits arguments client table (first_refusal (create_refusals limits arguments client table))
  counts view arguments client table kept e = counts_when view arguments client table (next_number arguments.sequence == client.sequence) kept refl e
