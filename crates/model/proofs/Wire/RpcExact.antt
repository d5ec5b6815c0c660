-- Calls and replies are read exactly from their encodings.
use Rattle.std.proofs.Common.{◌≡◌, ◌≢◌, ℕ, ◌<◌, ◌^◌, List, [], ◌∷◌, ◌++◌, Result, Ok, Err, inl, inr, refl, sym, ap, subst, ◌∙◌, append_assoc, arith, not, eqb, eqb-true, ne_eqb}
use Rattle.std.specs.Prelude.{Option, Some, None, option_map}
use Rattle.std.specs.Int.{w32}
use Rattle.std.proofs.lemmas.Bool.{eqb-false, not-false}
use Rattle.std.proofs.lemmas.List.{append-nil}
use Rattle.xdr.specs.declared.refusal.Refusal.{Refusal}
use Rattle.xdr.specs.Grammar.{Grammar, number, void, unsigned_int, ◌&◌}
use Rattle.xdr.specs.Forms.{always}
use Rattle.xdr.specs.Laws.{IsBytes, Exact, OneEncoding}
use Rattle.xdr.specs.Union.{on, no_other}
use Rattle.xdr.proofs.Steps.{chosen, IsBytes-behind}
use Rattle.xdr.proofs.Numbers.{int_exact}
use Rattle.xdr.proofs.Sequences.{void_exact, then_exact, of_exact, one_encoding}
use Rattle.xdr.proofs.Passing.{always_exact}
use Rattle.xdr.proofs.Opaques.{opaque_exact}
use Rattle.xdr.proofs.Arrays.{array_exact}
use Rattle.xdr.proofs.Unions.{TakesBy, AgainBy, on_takes, no_other_takes, union_exact, made_again}
use Rattle.model.specs.Operations.Operation.{SystemCredential}
use Rattle.model.specs.Wire.Rpc.{Call, NoCall, OtherVersion, Calls, read_call, behind_start, behind_version, call_start, call_header, opaque_auth, Reply, reply_text, credential_by}
use Rattle.model.specs.Wire.Rpc as rpc
use Rattle.model.specs.Wire.RpcGrammar.{CallHead, call_head, call_with, IsCall, IsOtherCall, OtherRpc, Unauthenticated, encoded_denial, denial, Tells, NoProgram, OtherProgram, NoProcedure, NoArguments, encoded_acceptance, accepted, Verdict, Accepts, Denies, encoded_verdict, ReplyHead, reply_head, verdict_of, result_of, head_of, alone, reply_of, reply_by, read_reply, ReadsCalls, ReadsReplies, ReadsCredentials}
use Rattle.model.specs.Wire.WireTypes.{system_credential}

-- Calls

always_int : (k : ℕ) → k < 2 ^ 32 → Exact (always k unsigned_int)
always_int k small = always_exact k unsigned_int small int_exact

opaque_auth_exact : Exact opaque_auth
opaque_auth_exact = then_exact int_exact (opaque_exact 400 (omega arith))

call_start_exact : Exact call_start
call_start_exact = then_exact int_exact (then_exact int_exact int_exact)

call_header_exact : Exact call_header
call_header_exact = then_exact int_exact (then_exact int_exact (then_exact int_exact (then_exact opaque_auth_exact opaque_auth_exact)))

pub call_head_exact : Exact call_head
call_head_exact = of_exact _ _ _ (λ _. refl) (λ _. refl)
    (then_exact int_exact (then_exact (always_int 0 (omega arith)) (then_exact (always_int 2 (omega arith)) call_header_exact)))

pub one_call_head : OneEncoding call_head
one_call_head = one_encoding call_head call_head_exact

-- the first three words, and what follows them

abbrev three : (xid type version : ℕ) → List ℕ
three xid type version = number w32 xid ++ (number w32 type ++ number w32 version)

regroup : (a b c d e : List ℕ) → (a ++ (b ++ c)) ++ (d ++ e) ≡ (a ++ (b ++ (c ++ d))) ++ e
regroup a b c d e = simp append_assoc

abbrev Header : Type 0
Header = ℕ × (ℕ × (ℕ × ((ℕ × List ℕ) × (ℕ × List ℕ))))

abbrev headed : (xid : ℕ) → Header → CallHead
headed xid header = record {
  xid = xid;
  program = header.0;
  version = header.1.0;
  procedure = header.1.1.0;
  credential = header.1.1.1.0;
  verifier = header.1.1.1.1;
}

some_call : (a b : Call) → Calls a ≡ Calls b → a ≡ b
some_call a b same = cc

some_version : (a b : ℕ) → OtherVersion a ≡ OtherVersion b → a ≡ b
some_version a b same = cc

module _ (bytes : List ℕ) (bytes_are : IsBytes bytes) where
  -- after the first three words of a call of version 2
  by_header : (call : Call) (xid : ℕ) (behind : List ℕ) → xid < 2 ^ 32 → bytes ≡ three xid 0 2 ++ behind
      → (header : Result (Header × List ℕ) Refusal) → call_header.read behind ≡ header → behind_version xid header ≡ Calls call → IsCall bytes call
  by_header call xid behind small text (Err fault) read is = absurd (cc)
  by_header call xid behind small text (Ok header) read is =
      let t = call_header_exact.takes behind header.0 header.1 (IsBytes-behind bytes (three xid 0 2) behind bytes_are text) read in
      let made = some_call (rpc.call_of xid header.0 header.1) call is in
      let body_is : header.1 ≡ call.body = ap (λ (c : Call). c.body) made in
      record {
        head = headed xid header.0;
        fits = (small, (tt, (tt, t.0)));
        encoded = text ∙ (ap (λ (b : List ℕ). three xid 0 2 ++ b) (t.1 ∙ ap (λ (b : List ℕ). call_header.encoding header.0 ++ b) body_is)
            ∙ regroup (number w32 xid) (number w32 0) (number w32 2) (call_header.encoding header.0) call.body);
        call_is = sym made ∙ ap (call_with (headed xid header.0)) body_is;
      }

  by_start : (call : Call) (start : Result ((ℕ × (ℕ × ℕ)) × List ℕ) Refusal) → call_start.read bytes ≡ start → behind_start start ≡ Calls call
      → IsCall bytes call
  by_start call (Err fault) read is = absurd (cc)
  by_start call (Ok start) read is = elim (chosen (not (eqb start.0.1.0 0)) NoCall _ (Calls call) is) [
    | inl wrong ↦ absurd (no_call wrong.1)
    | inr right ↦ elim (chosen (eqb start.0.1.1 2) _ (OtherVersion start.0.0) (Calls call) right.1) [
      | inl two ↦
          let t = call_start_exact.takes bytes start.0 start.1 bytes_are read in
          let type_is : start.0.1.0 ≡ 0 = eqb-true start.0.1.0 0 (not-false (eqb start.0.1.0 0) right.0) in
          let version_is : start.0.1.1 ≡ 2 = eqb-true start.0.1.1 2 two.0 in
          let text : bytes ≡ three start.0.0 0 2 ++ start.1 =
          t.1 ∙ (ap (λ (m : ℕ). three start.0.0 m start.0.1.1 ++ start.1) type_is ∙ ap (λ (v : ℕ). three start.0.0 0 v ++ start.1) version_is) in
          by_header call start.0.0 start.1 t.0.0 text (call_header.read start.1) refl two.1
      | inr other ↦ absurd (no_version other.1)
    ]
  ]
    where
      no_call : NoCall ≡ Calls call → ⊥
      no_call same = cc

      no_version : OtherVersion start.0.0 ≡ Calls call → ⊥
      no_version same = cc

  by_header_no : (xid other : ℕ) (header : Result (Header × List ℕ) Refusal) → behind_version other header ≡ OtherVersion xid → ⊥
  by_header_no xid other (Err fault) is = cc
  by_header_no xid other (Ok header) is = cc

  by_other : (xid : ℕ) (start : Result ((ℕ × (ℕ × ℕ)) × List ℕ) Refusal) → call_start.read bytes ≡ start → behind_start start ≡ OtherVersion xid
      → IsOtherCall bytes xid
  by_other xid (Err fault) read is = absurd (cc)
  by_other xid (Ok start) read is = elim (chosen (not (eqb start.0.1.0 0)) NoCall _ (OtherVersion xid) is) [
    | inl wrong ↦ absurd (no_call wrong.1)
    | inr right ↦ elim (chosen (eqb start.0.1.1 2) _ (OtherVersion start.0.0) (OtherVersion xid) right.1) [
      | inl two ↦ absurd (by_header_no xid start.0.0 (call_header.read start.1) two.1)
      | inr other ↦
          let t = call_start_exact.takes bytes start.0 start.1 bytes_are read in
          let type_is : start.0.1.0 ≡ 0 = eqb-true start.0.1.0 0 (not-false (eqb start.0.1.0 0) right.0) in
          let xid_is : start.0.0 ≡ xid = some_version start.0.0 xid other.1 in
          record {
            version = start.0.1.1;
            rest = start.1;
            fits = (subst (λ (x : ℕ). x < 2 ^ 32) xid_is t.0.0, (omega arith, t.0.1.1));
            other = eqb-false start.0.1.1 2 other.0;
            encoded = t.1 ∙ (ap (λ (m : ℕ). three start.0.0 m start.0.1.1 ++ start.1) type_is
                ∙ ap (λ (x : ℕ). three x 0 start.0.1.1 ++ start.1) xid_is);
          }
    ]
  ]
    where
      no_call : NoCall ≡ OtherVersion xid → ⊥
      no_call same = cc

-- what is encoded is read back

abbrev header_of : CallHead → Header
header_of head = (head.program, (head.version, (head.procedure, (head.credential, head.verifier))))

call_again : (head : CallHead) (body : List ℕ) → call_head.Fits head → read_call (call_head.encoding head ++ body) ≡ Calls (call_with head body)
unfolding read_call
call_again head body fits =
    let header = header_of head in
    let behind = call_header.encoding header ++ body in
    let text : call_head.encoding head ++ body ≡ three head.xid 0 2 ++ behind =
    sym (regroup (number w32 head.xid) (number w32 0) (number w32 2) (call_header.encoding header) body) in
    let start : call_start.read (call_head.encoding head ++ body) ≡ Ok ((head.xid, (0, 2)), behind) =
    ap call_start.read text ∙ call_start_exact.again (head.xid, (0, 2)) behind (fits.0, (omega arith, omega arith)) in
    ap behind_start start ∙ ap (behind_version head.xid) (call_header_exact.again header body fits.1.1.1)

other_again : (xid version : ℕ) (rest : List ℕ) → call_start.Fits (xid, (0, version)) → version ≢ 2
    → read_call (call_start.encoding (xid, (0, version)) ++ rest) ≡ OtherVersion xid
unfolding read_call
other_again xid version rest fits other =
    ap behind_start (call_start_exact.again (xid, (0, version)) rest fits) ∙ rw (ne_eqb version 2 other) refl

pub reads_calls : ReadsCalls
unfolding read_call
reads_calls = record {
  call = λ bytes call bytes_are. record {
    0 = by_start bytes bytes_are call (call_start.read bytes) refl;
    1 = λ is. ap read_call is.encoded ∙ (call_again is.head call.body is.fits ∙ ap Calls (sym is.call_is));
  };
  other = λ bytes xid bytes_are. record {
    0 = by_other bytes bytes_are xid (call_start.read bytes) refl;
    1 = λ is. ap read_call is.encoded ∙ other_again xid is.version is.rest is.fits is.other;
  };
}

-- Credentials

system_credential_exact : Exact system_credential
system_credential_exact = of_exact _ _ _ (λ _. refl) (λ _. refl)
    (then_exact int_exact (then_exact (opaque_exact 255 (omega arith)) (then_exact int_exact (then_exact int_exact (array_exact 16 unsigned_int (omega arith) int_exact)))))

known_alone : (read : Result (SystemCredential × List ℕ) Refusal) (known : SystemCredential) → credential_by read ≡ Some known
    → (rest : List ℕ) × (read ≡ Ok (known, rest)) × (rest ≡ [])
known_alone (Err fault) known is = absurd (cc)
known_alone (Ok (found, [])) known is =
    let same : found ≡ known = cc in
    ([], ap (λ (c : SystemCredential). told c) same, refl)
  where
    told : SystemCredential → Result (SystemCredential × List ℕ) Refusal
    told c = Ok (c, [])
known_alone (Ok (found, byte ∷ bytes)) known is = absurd (cc)

pub reads_credentials : ReadsCredentials
reads_credentials body known bytes_are = record {
  0 = λ is.
      let alone = known_alone (system_credential.read body) known is in
      let t = system_credential_exact.takes body known alone.0 bytes_are alone.1 in
      (t.0, t.1 ∙ (ap (λ (r : List ℕ). system_credential.encoding known ++ r) alone.2 ∙ append-nil (system_credential.encoding known)));
  1 = λ is.
      let text : body ≡ system_credential.encoding known ++ [] = is.1 ∙ sym (append-nil (system_credential.encoding known)) in
      ap credential_by (ap system_credential.read text ∙ system_credential_exact.again known [] is.0);
}

-- Replies

abbrev versions : (k : ℕ) → Grammar (Unit {0} × Unit {0})
versions k = always k unsigned_int & always k unsigned_int

versions_exact : (k : ℕ) → k < 2 ^ 32 → Exact (versions k)
versions_exact k small = then_exact (always_int k small) (always_int k small)

denial_takes : TakesBy encoded_denial (λ n. n < 2 ^ 32) (on 0 (versions 2) (λ _. OtherRpc) (on 1 unsigned_int Unauthenticated no_other))
denial_takes =
    on_takes encoded_denial _ 0 (versions 2) (λ _. OtherRpc) _ (versions_exact 2 (omega arith)) (λ _ _. refl)
    (on_takes encoded_denial _ 1 unsigned_int Unauthenticated _ int_exact (λ _ _. refl)
    (no_other_takes encoded_denial _))

denial_again : AgainBy encoded_denial (on 0 (versions 2) (λ _. OtherRpc) (on 1 unsigned_int Unauthenticated no_other))
denial_again OtherRpc rest small fits = made_again (versions 2) (λ _. OtherRpc) (versions_exact 2 (omega arith)) (tt, tt) rest fits
denial_again (Unauthenticated stat) rest small fits = made_again unsigned_int Unauthenticated int_exact stat rest fits

denial_exact : Exact denial
denial_exact = union_exact _ _ denial_takes denial_again

acceptance_takes : TakesBy encoded_acceptance (λ n. n < 2 ^ 32)
    (on 0 void (λ _. Tells) (on 1 void (λ _. NoProgram) (on 2 (versions 4) (λ _. OtherProgram) (on 3 void (λ _. NoProcedure) (on 4 void (λ _. NoArguments) no_other)))))
acceptance_takes =
    on_takes encoded_acceptance _ 0 void (λ _. Tells) _ void_exact (λ _ _. refl)
    (on_takes encoded_acceptance _ 1 void (λ _. NoProgram) _ void_exact (λ _ _. refl)
    (on_takes encoded_acceptance _ 2 (versions 4) (λ _. OtherProgram) _ (versions_exact 4 (omega arith)) (λ _ _. refl)
    (on_takes encoded_acceptance _ 3 void (λ _. NoProcedure) _ void_exact (λ _ _. refl)
    (on_takes encoded_acceptance _ 4 void (λ _. NoArguments) _ void_exact (λ _ _. refl)
    (no_other_takes encoded_acceptance _)))))

acceptance_again : AgainBy encoded_acceptance
    (on 0 void (λ _. Tells) (on 1 void (λ _. NoProgram) (on 2 (versions 4) (λ _. OtherProgram) (on 3 void (λ _. NoProcedure) (on 4 void (λ _. NoArguments) no_other)))))
acceptance_again Tells rest small fits = refl
acceptance_again NoProgram rest small fits = refl
acceptance_again OtherProgram rest small fits = made_again (versions 4) (λ _. OtherProgram) (versions_exact 4 (omega arith)) (tt, tt) rest fits
acceptance_again NoProcedure rest small fits = refl
acceptance_again NoArguments rest small fits = refl

accepted_exact : Exact accepted
accepted_exact = of_exact _ _ _ (λ _. refl) (λ _. refl)
    (then_exact (always_int 0 (omega arith)) (then_exact (always_int 0 (omega arith)) (union_exact _ _ acceptance_takes acceptance_again)))

verdict_takes : TakesBy encoded_verdict (λ n. n < 2 ^ 32) (on 0 accepted Accepts (on 1 denial Denies no_other))
verdict_takes =
    on_takes encoded_verdict _ 0 accepted Accepts _ accepted_exact (λ _ _. refl)
    (on_takes encoded_verdict _ 1 denial Denies _ denial_exact (λ _ _. refl)
    (no_other_takes encoded_verdict _))

verdict_again : AgainBy encoded_verdict (on 0 accepted Accepts (on 1 denial Denies no_other))
verdict_again (Accepts of) rest small fits = made_again accepted Accepts accepted_exact of rest fits
verdict_again (Denies of) rest small fits = made_again denial Denies denial_exact of rest fits

pub reply_head_exact : Exact reply_head
reply_head_exact = of_exact _ _ _ (λ _. refl) (λ _. refl)
    (then_exact int_exact (then_exact (always_int 1 (omega arith)) (union_exact _ _ verdict_takes verdict_again)))

pub one_reply_head : OneEncoding reply_head
one_reply_head = one_encoding reply_head reply_head_exact

-- a reply is its header, followed by its result
encoded_so : (xid : ℕ) (reply : Reply) → reply_text xid reply ≡ reply_head.encoding (head_of xid reply) ++ result_of reply
unfolding reply_text
encoded_so xid rpc.VersionRefused = simp (append_assoc, append-nil)
encoded_so xid (rpc.AuthRefused stat) = simp (append_assoc, append-nil)
encoded_so xid rpc.ProgramUnavailable = simp (append_assoc, append-nil)
encoded_so xid rpc.ProgramMismatch = simp (append_assoc, append-nil)
encoded_so xid rpc.ProcedureUnavailable = simp (append_assoc, append-nil)
encoded_so xid rpc.GarbageArguments = simp (append_assoc, append-nil)
encoded_so xid (rpc.Success result) = simp (append_assoc, append-nil)

alone_is : (one reply : Reply) (rest : List ℕ) → result_of one ≡ [] → alone one rest ≡ Some reply → (verdict_of reply ≡ verdict_of one) × (result_of reply ≡ rest)
alone_is one reply [] short is =
    let same : one ≡ reply = cc in
    (ap verdict_of (sym same), ap result_of (sym same) ∙ short)
alone_is one reply (byte ∷ rest) short is = absurd (cc)

reply_is : (of : Verdict) (rest : List ℕ) (reply : Reply) → reply_of of rest ≡ Some reply → (verdict_of reply ≡ of) × (result_of reply ≡ rest)
reply_is (Accepts Tells) rest reply is =
    let same : rpc.Success rest ≡ reply = cc in
    (ap verdict_of (sym same), ap result_of (sym same))
reply_is (Accepts NoProgram) rest reply is = alone_is rpc.ProgramUnavailable reply rest refl is
reply_is (Accepts OtherProgram) rest reply is = alone_is rpc.ProgramMismatch reply rest refl is
reply_is (Accepts NoProcedure) rest reply is = alone_is rpc.ProcedureUnavailable reply rest refl is
reply_is (Accepts NoArguments) rest reply is = alone_is rpc.GarbageArguments reply rest refl is
reply_is (Denies OtherRpc) rest reply is = alone_is rpc.VersionRefused reply rest refl is
reply_is (Denies (Unauthenticated stat)) rest reply is = alone_is (rpc.AuthRefused stat) reply rest refl is

reply_again : (reply : Reply) → reply_of (verdict_of reply) (result_of reply) ≡ Some reply
reply_again rpc.VersionRefused = refl
reply_again (rpc.AuthRefused stat) = refl
reply_again rpc.ProgramUnavailable = refl
reply_again rpc.ProgramMismatch = refl
reply_again rpc.ProcedureUnavailable = refl
reply_again rpc.GarbageArguments = refl
reply_again (rpc.Success result) = refl

abbrev paired : (xid : ℕ) → Reply → ℕ × Reply
paired xid reply = (xid, reply)

told_is : (found xid : ℕ) (o : Option Reply) (reply : Reply) → option_map (paired found) o ≡ Some (paired xid reply) → (found ≡ xid) × (o ≡ Some reply)
told_is found xid None reply is = absurd (cc)
told_is found xid (Some one) reply is =
    let same = some_pair (found, one) (xid, reply) is in
    (ap (λ (p : ℕ × Reply). p.0) same, ap (λ (p : ℕ × Reply). one_more p.1) same)
  where
    some_pair : (x y : ℕ × Reply) → Some x ≡ Some y → x ≡ y
    some_pair x y same = cc

    one_more : Reply → Option Reply
    one_more r = Some r

by_reply : (bytes : List ℕ) → IsBytes bytes → (xid : ℕ) (reply : Reply) (read : Result (ReplyHead × List ℕ) Refusal) → reply_head.read bytes ≡ read
    → reply_by read ≡ Some (xid, reply) → reply_head.Fits (head_of xid reply) × (bytes ≡ reply_text xid reply)
by_reply bytes bytes_are xid reply (Err fault) read is = absurd (cc)
by_reply bytes bytes_are xid reply (Ok head) read is =
    let t = reply_head_exact.takes bytes head.0 head.1 bytes_are read in
    let told = told_is head.0.xid xid (reply_of head.0.verdict head.1) reply is in
    let parts = reply_is head.0.verdict head.1 reply told.1 in
    let head_is : head.0 ≡ head_of xid reply =
    ap (λ (x : ℕ). at x head.0.verdict) told.0 ∙ ap (at xid) (sym parts.0) in (
      subst reply_head.Fits head_is t.0,
      t.1 ∙ (ap (λ (h : ReplyHead). reply_head.encoding h ++ head.1) head_is
          ∙ (ap (λ (r : List ℕ). reply_head.encoding (head_of xid reply) ++ r) (sym parts.1) ∙ sym (encoded_so xid reply))),
    )
  where
    at : ℕ → Verdict → ReplyHead
    at x v = record { xid = x; verdict = v }

pub reads_replies : ReadsReplies
unfolding read_reply
reads_replies bytes xid reply bytes_are = record {
  0 = by_reply bytes bytes_are xid reply (reply_head.read bytes) refl;
  1 = λ is.
      let text : bytes ≡ reply_head.encoding (head_of xid reply) ++ result_of reply = is.1 ∙ encoded_so xid reply in
      let read : reply_head.read bytes ≡ Ok (head_of xid reply, result_of reply) =
      ap reply_head.read text ∙ reply_head_exact.again (head_of xid reply) (result_of reply) is.0 in
      ap reply_by read ∙ ap (option_map (paired xid)) (reply_again reply);
}
