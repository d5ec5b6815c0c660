-- How long encodings are.
use Rattle.std.proofs.Common.{◌≡◌, ℕ, ◌+◌, ◌<◌, ◌==◌, Bool, true, false, cond, List, [], ◌∷◌, ◌++◌, length, take, drop, get_or, ◌≤◌, None, Some, sym, ap, ◌∙◌, arith}
use Rattle.std.specs.Int.{w32, w64}
use Rattle.std.proofs.lemmas.List.{length-append}
use Rattle.xdr.specs.Grammar.{number}
use Rattle.xdr.specs.Forms.{counted, elements, padded}
use Rattle.xdr.proofs.Sizes.{padded_length}
use Rattle.xdr.proofs.Numbers.{length-number_32, length-number_64}
use Rattle.std.proofs.lemmas.Grind.{flat_map-append}
use Rattle.std.proofs.lemmas.List.{take_more, take-append-drop, append-nil}
use Rattle.model.specs.Wire.WireTypes.{attributes, channel}
use Rattle.model.specs.Wire.WireAnswers.{entry, create_session_answer, behind_refusal}
use Rattle.wire.specs.declared.small.Attributes.{Attributes}
use Rattle.wire.specs.declared.small.Channel.{Channel}
use Rattle.wire.specs.declared.answers.Entry.{Entry}
use Rattle.wire.specs.declared.answers.CreateSessionAnswer.{CreateSessionAnswer}
use Rattle.wire.specs.SmallViews.{attributes_view, channel_view}
use Rattle.wire.specs.AnswerViews.{entry_view, create_session_view, link_of, links_of, chain_of}

-- two of xdr's, under names that an attribute of a function can write
pub int_length : (n : ℕ) → length (number w32 n) ≡ 4
int_length = length-number_32

pub hyper_length : (n : ℕ) → length (number w64 n) ≡ 8
hyper_length = length-number_64

pub attributes_length : (a : Attributes) (m n : ℕ) → m ≡ length (elements (λ k. number w32 k) a.bitmap) → n ≡ length (counted a.values.now) → m + n ≡ length (attributes.encoding (attributes_view a))
attributes_length a m n is_m is_n = omega (arith, length-append (elements (λ k. number w32 k) a.bitmap) (counted a.values.now))

pub entry_length : (e : Entry) (m n : ℕ) → m ≡ length (counted e.name.now) → n ≡ length (attributes.encoding (attributes_view e.attributes)) → 8 + m + n ≡ length (entry.encoding (entry_view e))
entry_length e m n is_m is_n =
    let values : List ℕ = attributes.encoding (attributes_view e.attributes) in
    omega (arith, length-append (number w64 e.cookie) (counted e.name.now ++ values), length-append (counted e.name.now) values, length-number_64 e.cookie)

rest_length : (text : List ℕ) (a b c d e f : ℕ) → length (number w32 a ++ (number w32 b ++ (number w32 c ++ (number w32 d ++ (number w32 e ++ (number w32 f ++ text)))))) ≡ 24 + length text
rest_length text a b c d e f = simp (length-append, length-number_32) (omega arith)

pub channel_none : (c : Channel) → c.rdma_ird ≡ None → length (channel.encoding (channel_view c)) ≡ 28
channel_none c is = rw is (rest_length (number w32 0) c.header_pad_size c.max_request_size c.max_response_size c.max_response_size_cached c.max_operations c.max_requests ∙ ap (λ (n : ℕ). 24 + n) (length-number_32 0))

pub channel_some : (c : Channel) (size : ℕ) → c.rdma_ird ≡ Some size → length (channel.encoding (channel_view c)) ≡ 32
channel_some c size is =
    rw is (rest_length (number w32 1 ++ number w32 size) c.header_pad_size c.max_request_size c.max_response_size c.max_response_size_cached c.max_operations c.max_requests
    ∙ ap (λ (n : ℕ). 24 + n) (length-append (number w32 1) (number w32 size) ∙ ap (λ (n : ℕ). n + length (number w32 size)) (length-number_32 1) ∙ ap (λ (n : ℕ). 4 + n) (length-number_32 size)))

pub chain_length : (es : List Entry) → length (chain_of es) ≡ length (links_of es) + 4
unfolding chain_of
chain_length es = omega (arith, length-append (links_of es) (number w32 0), length-number_32 0)

pub links_more : (es : List Entry) (i : ℕ) (e : Entry) → i < length es → e ≡ get_or es i e → length (links_of (take (i + 1) es)) ≡ length (links_of (take i es)) + 4 + length (entry.encoding (entry_view e))
links_more es i e lt is =
    let more : take (i + 1) es ≡ take i es ++ e ∷ [] = take_more es i e lt ∙ ap (λ (x : Entry). take i es ++ x ∷ []) (sym is) in
    let text : links_of (take (i + 1) es) ≡ links_of (take i es) ++ link_of e =
    ap links_of more ∙ flat_map-append link_of (take i es) (e ∷ []) ∙ ap (λ (t : List ℕ). links_of (take i es) ++ t) (append-nil (link_of e)) in
    omega (arith, ap length text, length-append (links_of (take i es)) (link_of e), length-append (number w32 1) (entry.encoding (entry_view e)), length-number_32 1)

pub links_part : (es : List Entry) (i : ℕ) → length (links_of (take i es)) ≤ length (links_of es)
links_part es i =
    let text : links_of es ≡ links_of (take i es) ++ links_of (drop i es) = ap links_of (sym (take-append-drop i es)) ∙ flat_map-append link_of (take i es) (drop i es) in
    omega (arith, ap length text, length-append (links_of (take i es)) (links_of (drop i es)))

with_session : (session fore back : List ℕ) (sequence flags : ℕ) → length session ≡ 16
    → length (padded session ++ (number w32 sequence ++ (number w32 flags ++ (fore ++ back)))) ≡ 24 + length fore + length back
with_session session fore back sequence flags len = simp (length-append, length-number_32, padded_length) (omega (arith, len))

pub create_session_length : (a : CreateSessionAnswer) (m n : ℕ) → length a.session ≡ 16 → m ≡ length (channel.encoding (channel_view a.fore)) → n ≡ length (channel.encoding (channel_view a.back))
    → 24 + m + n ≡ length (create_session_answer.encoding (create_session_view a))
create_session_length a m n len is_m is_n =
    rw (is_m, is_n) (sym (with_session a.session (channel.encoding (channel_view a.fore)) (channel.encoding (channel_view a.back)) a.sequence a.flags len))

-- what follows an error
behind_short : (b : Bool) → length (cond b (number w32 0) []) ≤ 4
behind_short true = omega (arith, length-number_32 0)
behind_short false = omega arith

pub refusal_short : (operation : ℕ) → length (behind_refusal operation) ≤ 4
refusal_short operation = behind_short (operation == 34)
