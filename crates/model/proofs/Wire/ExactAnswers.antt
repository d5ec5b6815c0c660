-- The results are exact.
use Rattle.std.proofs.Common.{◌≡◌, ◌≢◌, ℕ, ◌^◌, ◌<◌, Bool, true, false, List, [], ◌++◌, Option, Some, None, Ok, refl, sym, ap, subst, ◌∙◌, inl, inr, cond, eqb, append_assoc, arith}
use Rattle.std.specs.Int.{w32}
use Rattle.std.proofs.lemmas.Bool.{eqb-true, eqb-false, ne_eqb}
use Rattle.xdr.specs.Grammar.{◌>>=◌, void, number, number_at, unsigned_int, unsigned_hyper}
use Rattle.xdr.specs.Forms.{always, trimmed_bitmap}
use Rattle.xdr.specs.Laws.{IsBytes, Exact, OneEncoding}
use Rattle.xdr.specs.Union.{made}
use Rattle.xdr.proofs.Steps.{bind_ok, chosen, ok_is, IsBytes-behind}
use Rattle.xdr.proofs.Numbers.{int_takes, int_again, int_exact, hyper_exact}
use Rattle.xdr.proofs.Sequences.{void_exact, then_exact, of_exact, one_encoding}
use Rattle.xdr.proofs.Passing.{boolean_exact, always_exact}
use Rattle.xdr.proofs.Arrays.{chain_exact, trimmed_exact}
use Rattle.xdr.proofs.Unions.{TakesOne, TakesBy, AgainBy, on_takes, no_other_takes, union_exact, made_again}
use Rattle.model_tree.specs.declared.status.Status.{Status}
use Rattle.model_tree.specs.declared.status.Status.TheVariants as status
use Rattle.model_tree.specs.Refusals.Status.{code_of}
use Rattle.model.specs.Operations.Answer.{Answer, Outcome, Done, Refused}
use Rattle.model.specs.Wire.WireTypes.{file_handle, verifier, state_id, change_info}
use Rattle.model.specs.Wire.WireAnswers.{answered_attributes, access_answer, create_answer, open_answer, read_answer, entry, read_dir_answer, rename_answer, write_answer, exchange_id_answer, create_session_answer, sequence_answer, encoded_answer, answer_choice, refusals, refusal_of, behind_refusal, encoded_outcome, refused_by, behind_status, outcome_choice, outcome_at, outcome}
use Rattle.model.proofs.Wire.ExactTypes.{any_opaque_exact, file_handle_exact, verifier_exact, session_id_exact, state_id_exact, attributes_of_exact, change_info_exact, channel_exact}
use Rattle.model.proofs.Sessions.TableCalls.{found_passes}

pub answered_attributes_exact : Exact answered_attributes
answered_attributes_exact = attributes_of_exact trimmed_bitmap trimmed_exact

pub access_answer_exact : Exact access_answer
access_answer_exact = of_exact _ _ _ (λ _. refl) (λ _. refl) (then_exact int_exact int_exact)

pub create_answer_exact : Exact create_answer
create_answer_exact = of_exact _ _ _ (λ _. refl) (λ _. refl) (then_exact change_info_exact trimmed_exact)

none_exact : Exact (always 0 unsigned_int)
none_exact = always_exact 0 unsigned_int (omega arith) int_exact

none_hyper_exact : Exact (always 0 unsigned_hyper)
none_hyper_exact = always_exact 0 unsigned_hyper (omega arith) hyper_exact

pub open_answer_exact : Exact open_answer
open_answer_exact = of_exact _ _ _ (λ _. refl) (λ _. refl)
    (then_exact state_id_exact (then_exact change_info_exact (then_exact int_exact (then_exact trimmed_exact none_exact))))

pub read_answer_exact : Exact read_answer
read_answer_exact = of_exact _ _ _ (λ _. refl) (λ _. refl) (then_exact boolean_exact any_opaque_exact)

pub entry_exact : Exact entry
entry_exact = of_exact _ _ _ (λ _. refl) (λ _. refl) (then_exact hyper_exact (then_exact any_opaque_exact answered_attributes_exact))

pub read_dir_answer_exact : Exact read_dir_answer
read_dir_answer_exact = of_exact _ _ _ (λ _. refl) (λ _. refl) (then_exact none_hyper_exact (then_exact (chain_exact entry entry_exact) boolean_exact))

pub rename_answer_exact : Exact rename_answer
rename_answer_exact = of_exact _ _ _ (λ _. refl) (λ _. refl) (then_exact change_info_exact change_info_exact)

pub write_answer_exact : Exact write_answer
write_answer_exact = of_exact _ _ _ (λ _. refl) (λ _. refl) (then_exact int_exact (then_exact int_exact verifier_exact))

pub exchange_id_answer_exact : Exact exchange_id_answer
exchange_id_answer_exact = of_exact _ _ _ (λ _. refl) (λ _. refl)
    (then_exact hyper_exact (then_exact int_exact (then_exact int_exact (then_exact none_exact (then_exact none_hyper_exact (then_exact any_opaque_exact (then_exact any_opaque_exact none_exact)))))))

pub create_session_answer_exact : Exact create_session_answer
create_session_answer_exact = of_exact _ _ _ (λ _. refl) (λ _. refl)
    (then_exact session_id_exact (then_exact int_exact (then_exact int_exact (then_exact channel_exact channel_exact))))

pub sequence_answer_exact : Exact sequence_answer
sequence_answer_exact = of_exact _ _ _ (λ _. refl) (λ _. refl)
    (then_exact session_id_exact (then_exact int_exact (then_exact int_exact (then_exact int_exact (then_exact int_exact int_exact)))))

pub answer_takes : TakesBy encoded_answer (λ n. n < 2 ^ 32) answer_choice
answer_takes =
    (on_takes encoded_answer _ 3 access_answer Answer.Access _ access_answer_exact (λ _ _. refl)
    (on_takes encoded_answer _ 4 state_id Answer.Close _ state_id_exact (λ _ _. refl)
    (on_takes encoded_answer _ 5 verifier Answer.Commit _ verifier_exact (λ _ _. refl)
    (on_takes encoded_answer _ 6 create_answer Answer.Create _ create_answer_exact (λ _ _. refl)
    (on_takes encoded_answer _ 9 answered_attributes Answer.GetAttr _ answered_attributes_exact (λ _ _. refl)
    (on_takes encoded_answer _ 10 file_handle Answer.GetFh _ file_handle_exact (λ _ _. refl)
    (on_takes encoded_answer _ 15 void (λ _. Answer.Lookup) _ void_exact (λ _ _. refl)
    (on_takes encoded_answer _ 16 void (λ _. Answer.LookupParent) _ void_exact (λ _ _. refl)
    (on_takes encoded_answer _ 18 open_answer Answer.Open _ open_answer_exact (λ _ _. refl)
    (on_takes encoded_answer _ 22 void (λ _. Answer.PutFh) _ void_exact (λ _ _. refl)
    (on_takes encoded_answer _ 24 void (λ _. Answer.PutRootFh) _ void_exact (λ _ _. refl)
    (on_takes encoded_answer _ 25 read_answer Answer.Read _ read_answer_exact (λ _ _. refl)
    (on_takes encoded_answer _ 26 read_dir_answer Answer.ReadDir _ read_dir_answer_exact (λ _ _. refl)
    (on_takes encoded_answer _ 28 change_info Answer.Remove _ change_info_exact (λ _ _. refl)
    (on_takes encoded_answer _ 29 rename_answer Answer.Rename _ rename_answer_exact (λ _ _. refl)
    (on_takes encoded_answer _ 31 void (λ _. Answer.RestoreFh) _ void_exact (λ _ _. refl)
    (on_takes encoded_answer _ 32 void (λ _. Answer.SaveFh) _ void_exact (λ _ _. refl)
    (on_takes encoded_answer _ 34 trimmed_bitmap Answer.SetAttr _ trimmed_exact (λ _ _. refl)
    (on_takes encoded_answer _ 38 write_answer Answer.Write _ write_answer_exact (λ _ _. refl)
    (on_takes encoded_answer _ 42 exchange_id_answer Answer.ExchangeId _ exchange_id_answer_exact (λ _ _. refl)
    (on_takes encoded_answer _ 43 create_session_answer Answer.CreateSession _ create_session_answer_exact (λ _ _. refl)
    (on_takes encoded_answer _ 44 void (λ _. Answer.DestroySession) _ void_exact (λ _ _. refl)
    (on_takes encoded_answer _ 53 sequence_answer Answer.Sequence _ sequence_answer_exact (λ _ _. refl)
    (on_takes encoded_answer _ 57 void (λ _. Answer.DestroyClientId) _ void_exact (λ _ _. refl)
    (on_takes encoded_answer _ 58 void (λ _. Answer.ReclaimComplete) _ void_exact (λ _ _. refl)
    (no_other_takes encoded_answer _))))))))))))))))))))))))))

pub answer_again : AgainBy encoded_answer answer_choice
answer_again (Answer.Access v) rest small fits = made_again access_answer Answer.Access access_answer_exact v rest fits
answer_again (Answer.Close v) rest small fits = made_again state_id Answer.Close state_id_exact v rest fits
answer_again (Answer.Commit v) rest small fits = made_again verifier Answer.Commit verifier_exact v rest fits
answer_again (Answer.Create v) rest small fits = made_again create_answer Answer.Create create_answer_exact v rest fits
answer_again (Answer.GetAttr v) rest small fits = made_again answered_attributes Answer.GetAttr answered_attributes_exact v rest fits
answer_again (Answer.GetFh v) rest small fits = made_again file_handle Answer.GetFh file_handle_exact v rest fits
answer_again Answer.Lookup rest small fits = refl
answer_again Answer.LookupParent rest small fits = refl
answer_again (Answer.Open v) rest small fits = made_again open_answer Answer.Open open_answer_exact v rest fits
answer_again Answer.PutFh rest small fits = refl
answer_again Answer.PutRootFh rest small fits = refl
answer_again (Answer.Read v) rest small fits = made_again read_answer Answer.Read read_answer_exact v rest fits
answer_again (Answer.ReadDir v) rest small fits = made_again read_dir_answer Answer.ReadDir read_dir_answer_exact v rest fits
answer_again (Answer.Remove v) rest small fits = made_again change_info Answer.Remove change_info_exact v rest fits
answer_again (Answer.Rename v) rest small fits = made_again rename_answer Answer.Rename rename_answer_exact v rest fits
answer_again Answer.RestoreFh rest small fits = refl
answer_again Answer.SaveFh rest small fits = refl
answer_again (Answer.SetAttr v) rest small fits = made_again trimmed_bitmap Answer.SetAttr trimmed_exact v rest fits
answer_again (Answer.Write v) rest small fits = made_again write_answer Answer.Write write_answer_exact v rest fits
answer_again (Answer.ExchangeId v) rest small fits = made_again exchange_id_answer Answer.ExchangeId exchange_id_answer_exact v rest fits
answer_again (Answer.CreateSession v) rest small fits = made_again create_session_answer Answer.CreateSession create_session_answer_exact v rest fits
answer_again Answer.DestroySession rest small fits = refl
answer_again (Answer.Sequence v) rest small fits = made_again sequence_answer Answer.Sequence sequence_answer_exact v rest fits
answer_again Answer.DestroyClientId rest small fits = refl
answer_again Answer.ReclaimComplete rest small fits = refl

-- ---- a status, and what follows it

refusal_again : (reason : Status) → code_of reason ≢ 0 → refusal_of (code_of reason) ≡ Some reason
refusal_again status.Ok other = absurd (other refl)
refusal_again status.NoEnt other = refl
refusal_again status.Access other = refl
refusal_again status.Exist other = refl
refusal_again status.NotDir other = refl
refusal_again status.IsDir other = refl
refusal_again status.Inval other = refl
refusal_again status.FBig other = refl
refusal_again status.NoSpc other = refl
refusal_again status.NameTooLong other = refl
refusal_again status.NotEmpty other = refl
refusal_again status.Stale other = refl
refusal_again status.BadHandle other = refl
refusal_again status.NotSupp other = refl
refusal_again status.TooSmall other = refl
refusal_again status.ServerFault other = refl
refusal_again status.BadType other = refl
refusal_again status.Delay other = refl
refusal_again status.ShareDenied other = refl
refusal_again status.ClidInUse other = refl
refusal_again status.NoFileHandle other = refl
refusal_again status.MinorVersMismatch other = refl
refusal_again status.StaleClientId other = refl
refusal_again status.OldStateId other = refl
refusal_again status.BadStateId other = refl
refusal_again status.NotSame other = refl
refusal_again status.AttrNotSupp other = refl
refusal_again status.BadXdr other = refl
refusal_again status.OpenMode other = refl
refusal_again status.BadOwner other = refl
refusal_again status.BadChar other = refl
refusal_again status.BadName other = refl
refusal_again status.OpIllegal other = refl
refusal_again status.BadSession other = refl
refusal_again status.BadSlot other = refl
refusal_again status.CompleteAlready other = refl
refusal_again status.SeqMisordered other = refl
refusal_again status.SequencePos other = refl
refusal_again status.RepTooBig other = refl
refusal_again status.TooManyOps other = refl
refusal_again status.OpNotInSession other = refl
refusal_again status.ClientIdBusy other = refl
refusal_again status.SeqFalseRetry other = refl
refusal_again status.DeadSession other = refl
refusal_again status.NotOnlyOp other = refl

refused_takes : (n code : ℕ) (o : Option Status) (bytes : List ℕ) (w : Outcome) (rest : List ℕ) → code ≢ 0 → refusal_of code ≡ o → IsBytes bytes → refused_by n o bytes ≡ Ok (w, rest)
    → TakesOne encoded_outcome n (number w32 code ++ bytes) w rest
refused_takes n code None bytes w rest other is fits e = absurd cc
refused_takes n code (Some reason) bytes w rest other is fits e =
    let same : code_of reason ≡ code = eqb-true (code_of reason) code (found_passes (λ r. eqb (code_of r) code) refusals reason is) in
    let not_ok : code_of reason ≢ 0 = λ z. other (sym same ∙ z) in
    let R : Outcome × List ℕ → Type 0 = λ x. TakesOne encoded_outcome n (number w32 code ++ bytes) x.0 x.1 in
    let plain : Outcome × List ℕ = (Refused n reason, bytes) in
    elim (chosen (eqb n 34) (made (λ _. Refused n reason) (always 0 unsigned_int) bytes) (Ok plain) (Ok (w, rest)) e) [
      | inl h ↦
          let p = bind_ok ((always 0 unsigned_int).read bytes) (λ x. Ok (Refused n reason, x.1)) (w, rest) h.1 in
          let t = none_exact.takes bytes p.0.0 p.0.1 fits p.1 in
          let got : Outcome × List ℕ = (Refused n reason, p.0.1) in
          let behind : behind_refusal n ≡ number w32 0 = ap (λ (b : Bool). cond b (number w32 0) []) h.0 in
          let parts : number w32 code ++ bytes ≡ (number w32 (code_of reason) ++ behind_refusal n) ++ p.0.1 =
          ap (λ (x : List ℕ). number w32 code ++ x) t.1 ∙ ap (λ (k : ℕ). number w32 k ++ (number w32 0 ++ p.0.1)) (sym same)
          ∙ sym (append_assoc (number w32 (code_of reason)) (number w32 0) p.0.1) ∙ ap (λ (x : List ℕ). (number w32 (code_of reason) ++ x) ++ p.0.1) (sym behind) in
          subst R (ok_is got (w, rest) p.2) (record { is_number = refl; fits = not_ok; parts = parts })
      | inr h ↦
          let behind : behind_refusal n ≡ [] = ap (λ (b : Bool). cond b (number w32 0) []) h.0 in
          let parts : number w32 code ++ bytes ≡ (number w32 (code_of reason) ++ behind_refusal n) ++ bytes =
          ap (λ (k : ℕ). number w32 k ++ bytes) (sym same) ∙ sym (append_assoc (number w32 (code_of reason)) [] bytes) ∙ ap (λ (x : List ℕ). (number w32 (code_of reason) ++ x) ++ bytes) (sym behind) in
          subst R (ok_is plain (w, rest) h.1) (record { is_number = refl; fits = not_ok; parts = parts })
    ]

outcome_takes : TakesBy encoded_outcome (λ n. n < 2 ^ 32) outcome_choice
outcome_takes n bytes w rest small fits e =
    let p = bind_ok (number_at w32 bytes) (behind_status n) (w, rest) e in
    let t = int_takes bytes p.0.0 p.0.1 fits p.1 in
    let tail_fits = IsBytes-behind bytes (number w32 p.0.0) p.0.1 fits t.1 in
    elim (chosen (eqb p.0.0 0) (answer_choice n p.0.1 >>= λ x. Ok (Done x.0, x.1)) (refused_by n (refusal_of p.0.0) p.0.1) (Ok (w, rest)) p.2) [
      | inl h ↦
          let q = bind_ok (answer_choice n p.0.1) (λ x. Ok (Done x.0, x.1)) (w, rest) h.1 in
          let u = answer_takes n p.0.1 q.0.0 q.0.1 small tail_fits q.1 in
          let got : Outcome × List ℕ = (Done q.0.0, q.0.1) in
          let parts : bytes ≡ (number w32 0 ++ (encoded_answer q.0.0).text) ++ q.0.1 =
          t.1 ∙ ap (λ (k : ℕ). number w32 k ++ p.0.1) (eqb-true p.0.0 0 h.0) ∙ ap (λ (x : List ℕ). number w32 0 ++ x) u.parts ∙ sym (append_assoc (number w32 0) (encoded_answer q.0.0).text q.0.1) in
          let R : Outcome × List ℕ → Type 0 = λ x. TakesOne encoded_outcome n bytes x.0 x.1 in
          subst R (ok_is got (w, rest) q.2) (record { is_number = u.is_number; fits = u.fits; parts = parts })
      | inr h ↦
          let u = refused_takes n p.0.0 (refusal_of p.0.0) p.0.1 w rest (eqb-false p.0.0 0 h.0) refl tail_fits h.1 in
          record { is_number = u.is_number; fits = u.fits; parts = t.1 ∙ u.parts }
    ]

code_small : (reason : Status) → code_of reason < 2 ^ 32
code_small status.Ok = omega arith
code_small status.NoEnt = omega arith
code_small status.Access = omega arith
code_small status.Exist = omega arith
code_small status.NotDir = omega arith
code_small status.IsDir = omega arith
code_small status.Inval = omega arith
code_small status.FBig = omega arith
code_small status.NoSpc = omega arith
code_small status.NameTooLong = omega arith
code_small status.NotEmpty = omega arith
code_small status.Stale = omega arith
code_small status.BadHandle = omega arith
code_small status.NotSupp = omega arith
code_small status.TooSmall = omega arith
code_small status.ServerFault = omega arith
code_small status.BadType = omega arith
code_small status.Delay = omega arith
code_small status.ShareDenied = omega arith
code_small status.ClidInUse = omega arith
code_small status.NoFileHandle = omega arith
code_small status.MinorVersMismatch = omega arith
code_small status.StaleClientId = omega arith
code_small status.OldStateId = omega arith
code_small status.BadStateId = omega arith
code_small status.NotSame = omega arith
code_small status.AttrNotSupp = omega arith
code_small status.BadXdr = omega arith
code_small status.OpenMode = omega arith
code_small status.BadOwner = omega arith
code_small status.BadChar = omega arith
code_small status.BadName = omega arith
code_small status.OpIllegal = omega arith
code_small status.BadSession = omega arith
code_small status.BadSlot = omega arith
code_small status.CompleteAlready = omega arith
code_small status.SeqMisordered = omega arith
code_small status.SequencePos = omega arith
code_small status.RepTooBig = omega arith
code_small status.TooManyOps = omega arith
code_small status.OpNotInSession = omega arith
code_small status.ClientIdBusy = omega arith
code_small status.SeqFalseRetry = omega arith
code_small status.DeadSession = omega arith
code_small status.NotOnlyOp = omega arith

behind_again : (n : ℕ) (reason : Status) (rest : List ℕ) → refused_by n (Some reason) (behind_refusal n ++ rest) ≡ Ok (Refused n reason, rest)
behind_again n reason rest =
    let P : Bool → Type 0 = λ b. cond b (made (λ _. Refused n reason) (always 0 unsigned_int) (cond b (number w32 0) [] ++ rest)) (Ok (Refused n reason, cond b (number w32 0) [] ++ rest)) ≡ Ok (Refused n reason, rest) in
    elim (eqb n 34) as P [
      | true ↦ made_again (always 0 unsigned_int) (λ _. Refused n reason) none_exact tt rest tt
      | false ↦ refl
    ]

outcome_again : AgainBy encoded_outcome outcome_choice
outcome_again (Done answer) rest small fits =
    rw (append_assoc (number w32 0) (encoded_answer answer).text rest, int_again 0 ((encoded_answer answer).text ++ rest) (omega arith), answer_again answer rest small fits) refl
outcome_again (Refused n reason) rest small fits =
    rw (append_assoc (number w32 (code_of reason)) (behind_refusal n) rest, int_again (code_of reason) (behind_refusal n ++ rest) (code_small reason), ne_eqb (code_of reason) 0 fits, refusal_again reason fits)
    (behind_again n reason rest)

pub outcome_exact : Exact outcome
unfolding outcome_at
outcome_exact = union_exact encoded_outcome outcome_at outcome_takes outcome_again

pub one_outcome : OneEncoding outcome
one_outcome = one_encoding outcome outcome_exact
