-- Worked rows over stateids: file 9 of the first run, opened by client 5.
use Rattle.std.proofs.Common.{◌≡◌, ℕ, true, false, refl, [], ◌∷◌, Option, None, Some, codes, replicate}
use Rattle.model_tree.specs.declared.status.Status.TheVariants as status
use Rattle.model.specs.Operations.Context.{Context}
use Rattle.model.specs.Sessions.Opens.{Opens, Open, no_opens}
use Rattle.model.specs.Operations.Operation.{StateId}
use Rattle.model.specs.Sessions.StateIds.{Anonymous, Refused, Names, found, opened, is_table_full, without_number, without_clients, open_stateid, new_open, access_refusals, zeros, write_access}
use Rattle.model_tree.specs.Refusals.Refusal.{first_refusal}

abbrev context : (number : ℕ) → (carried : Option StateId) → Context
context number carried = record {
  cred = record { uid = 7; gid = 7; gids = [] };
  client = 5;
  run = 1;
  current = Some (record { number = number; state = carried });
  saved = None;
}

abbrev one : Open
one = new_open 5 (codes "A") 9 1

abbrev once : Opens
once = record { given = 1; known = (1, one) ∷ [] }

-- the same owner opens the file again, for writing
abbrev twice : Opens
twice = record { given = 1; known = (1, record one { access = 3; seqid = 2 }) ∷ [] }

abbrev given : (seqid : ℕ) → StateId
given seqid = record { seqid = seqid; other = 0 ∷ 0 ∷ 0 ∷ 1 ∷ 0 ∷ 0 ∷ 0 ∷ 0 ∷ 0 ∷ 0 ∷ 0 ∷ 1 ∷ [] }

-- a first open has the serial 1 and the seqid 1; a second one by the same owner joins it
opens : opened no_opens one ≡ record { serial = 1; state = one; opens = once }
unfolding opened
opens = refl

told : open_stateid 1 1 1 ≡ given 1
told = refl

opens_again : opened once (new_open 5 (codes "A") 9 2) ≡ record { serial = 1; state = record one { access = 3; seqid = 2 }; opens = twice }
unfolding opened
opens_again = refl

-- another owner has another serial, one that was not given before
opens_another : (opened (record { given = 3; known = once.known }) (new_open 5 (codes "B") 9 1)).serial ≡ 4
unfolding opened
opens_another = refl

-- a table of one is full then, but not for an open that joins
full : is_table_full 1 once (new_open 5 (codes "B") 9 1) ≡ true
full = refl

joins_when_full : is_table_full 1 once (new_open 5 (codes "A") 9 2) ≡ false
joins_when_full = refl

no_serial_left : is_table_full 256 (record { given = 0xFFFFFFFFFFFFFFFF; known = [] }) one ≡ true
no_serial_left = refl

-- a removal ends the opens of its file, and a client its own; the count of serials stays
removed : without_number 9 once ≡ record { given = 1; known = [] }
removed = refl

other_removed : without_number 8 once ≡ once
other_removed = refl

client_ended : without_clients (4 ∷ 5 ∷ []) once ≡ record { given = 1; known = [] }
client_ended = refl

other_ended : without_clients (4 ∷ []) once ≡ once
other_ended = refl

newest : found once (context 9 None) (given 1) ≡ Names 1 one
unfolding found
newest = refl

too_new : found once (context 9 None) (given 2) ≡ Refused status.BadStateId
unfolding found
too_new = refl

old : found twice (context 9 None) (given 1) ≡ Refused status.OldStateId
unfolding found
old = refl

any : found once (context 9 None) (given 0) ≡ Names 1 one
unfolding found
any = refl

other_file : found once (context 8 None) (given 1) ≡ Refused status.BadStateId
unfolding found
other_file = refl

other_run : found once (record (context 9 None) { run = 2 }) (given 1) ≡ Refused status.BadStateId
unfolding found
other_run = refl

-- special ones
anonymous : found once (context 9 None) (record { seqid = 0; other = zeros }) ≡ Anonymous
unfolding found
anonymous = refl

current : found once (context 9 (Some (given 1))) (record { seqid = 1; other = zeros }) ≡ Names 1 one
unfolding found
current = refl

overtaken : found twice (context 9 (Some (given 1))) (record { seqid = 1; other = zeros }) ≡ Refused status.OldStateId
unfolding found
overtaken = refl

no_current : found once (context 9 None) (record { seqid = 1; other = zeros }) ≡ Refused status.BadStateId
unfolding found
no_current = refl

bypass : found once (context 9 None) (record { seqid = 0xFFFFFFFF; other = replicate 12 255 }) ≡ Refused status.BadStateId
unfolding found
bypass = refl

open_mode : first_refusal (access_refusals write_access (found once (context 9 None) (given 1))) ≡ Some status.OpenMode
unfolding found
open_mode = refl
