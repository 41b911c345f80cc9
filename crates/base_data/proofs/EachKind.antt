-- What is proved of data by going through its kinds: each line takes what stands in the files of the kind.
use Rattle.std.proofs.Common.{IsTrue, List, Ok, [], ap, arith, length, refl, true, ℕ, ◌+◌, ◌∙◌, ◌∷◌, ◌≡◌, ◌≤◌, sym}
use Rattle.std.proofs.Common.{subst}
use Rattle.std.specs.Cmp.Lexicographic.{bytes_decides}
use Rattle.std.specs.Cmp.{first_so, second_so}
use Rattle.std.specs.Prelude.{◌↔◌}
use Rattle.base.specs.names.Labels.{wire_of}
use Rattle.base.specs.reading.Names.{name_at}
use Rattle.base.specs.reading.Reading.{place_after, bytes_at}
use Rattle.base.specs.RecordType.{same_type}
use Rattle.base.specs.reading.Spelling.{NamesStand, no_more, one_more}
use Rattle.base.specs.declared.record_type.RecordType.TheVariants as types
use Rattle.base.specs.declared.record_type.RecordType.{RecordType}
use Rattle.base.proofs.reading.ReadingLemmas.{name_again}
use Rattle.base_data.proofs.AddressWords.{fills_a, fills_aaaa}
use Rattle.base_data.proofs.ByteWords.{bytes_inside, some_bytes}
use Rattle.base_data.proofs.FieldLemmas.{both}
use Rattle.base_data.proofs.MXLemmas.{mx_inside, mx_is, mx_longer, tells_mx}
use Rattle.base_data.proofs.NameWords.{here_name, name_inside, name_longer}
use Rattle.base_data.proofs.OneNameLemmas.{tells_aname, tells_cname, tells_ns, tells_ptr}
use Rattle.base_data.proofs.OptionWords.{fills_options, options_inside, options_same, options_some}
use Rattle.base_data.proofs.ReadRows.{IsRow, again_of, no_row, row_of}
use Rattle.base_data.proofs.SOALemmas.{soa_inside, soa_is, soa_longer, tells_soa}
use Rattle.base_data.proofs.SRVLemmas.{srv_inside, srv_is, srv_longer, tells_srv}
use Rattle.base_data.proofs.SameData.{IsSame, apart, as_bytes, as_name, flag_of, types_Decide}
use Rattle.base_data.proofs.Tells.{fills_bytes, fills_from}
use Rattle.base_data.proofs.TextWords.{fills_txt, some_strings}
use Rattle.base_data.specs.Kinds.{DataWord, IsReadable, KeptData, as_any, data_names, data_places, is_carried, kind_at}
use Rattle.base_data.specs.Kinds.{type_of_data}
use Rattle.base_data.specs.OPT.{options_wire}
use Rattle.base_data.specs.RData.{filling, is_signature_data, signature_in}
use Rattle.base_data.specs.contracts.rdata.RDataPartialEq.TheImpl.{ghosts as equality}
use Rattle.base_data.specs.declared.rdata.RData.TheVariants as kinds
use Rattle.base_data.proofs.Comparing.{options_decide}
use Rattle.base_data.specs.declared.rdata.RData.{RData}

-- ---- reading, by type

-- bytes that are carried
carried_row : (type : RecordType) (len : ℕ) (B : List ℕ) (i : ℕ) → 1 ≤ len → is_carried type ≡ true
    → IsRow type len B i (as_any (λ x. kinds.Unknown type x) (bytes_at len B i))
carried_row type len B i some carried = row_of type len B i (λ x. kinds.Unknown type x) (bytes_at len B i)
    (fills_bytes len B i some)
    (λ x is. record { type_is = refl; word = is.0; readable = (carried, is.1) })

pub kind_row : (type : RecordType) (len : ℕ) (B : List ℕ) (i : ℕ) → 1 ≤ len → IsRow type len B i (kind_at type len B i)
unfolding kind_at
kind_row types.A len B i some = row_of types.A len B i (λ x. kinds.A x) _ (fills_a B i (i + len))
    (λ x is. record { type_is = refl; word = is.0; readable = is.1 })
kind_row types.AAAA len B i some = row_of types.AAAA len B i (λ x. kinds.AAAA x) _ (fills_aaaa B i (i + len))
    (λ x is. record { type_is = refl; word = is.0; readable = is.1 })
kind_row types.NS len B i some = row_of types.NS len B i (λ x. kinds.NS x) _ (fills_from (i + len) (tells_ns B i))
    (λ x is. record { type_is = refl; word = is.0; readable = is.1 })
kind_row types.CNAME len B i some = row_of types.CNAME len B i (λ x. kinds.CNAME x) _
    (fills_from (i + len) (tells_cname B i)) (λ x is. record { type_is = refl; word = is.0; readable = is.1 })
kind_row types.PTR len B i some = row_of types.PTR len B i (λ x. kinds.PTR x) _ (fills_from (i + len) (tells_ptr B i))
    (λ x is. record { type_is = refl; word = is.0; readable = is.1 })
kind_row types.ANAME len B i some = row_of types.ANAME len B i (λ x. kinds.ANAME x) _
    (fills_from (i + len) (tells_aname B i)) (λ x is. record { type_is = refl; word = is.0; readable = is.1 })
kind_row types.MX len B i some = row_of types.MX len B i (λ x. kinds.MX x) _ (fills_from (i + len) (tells_mx B i))
    (λ x is. record { type_is = refl; word = is.0; readable = is.1 })
kind_row types.SOA len B i some = row_of types.SOA len B i (λ x. kinds.SOA x) _ (fills_from (i + len) (tells_soa B i))
    (λ x is. record { type_is = refl; word = is.0; readable = (is.1, is.2) })
kind_row types.SRV len B i some = row_of types.SRV len B i (λ x. kinds.SRV x) _ (fills_from (i + len) (tells_srv B i))
    (λ x is. record { type_is = refl; word = is.0; readable = is.1 })
kind_row types.TXT len B i some = row_of types.TXT len B i (λ x. kinds.TXT x) _ (fills_txt len B i some)
    (λ x is. record { type_is = refl; word = is.0; readable = is.1 })
kind_row types.NULL len B i some = row_of types.NULL len B i (λ x. kinds.NULL x) _ (fills_bytes len B i some)
    (λ x is. record { type_is = refl; word = is.0; readable = is.1 })
kind_row types.OPT len B i some = row_of types.OPT len B i (λ x. kinds.OPT x) _ (fills_options len B i some)
    (λ x is. record { type_is = refl; word = is.0; readable = is.1 })
kind_row types.TSIG len B i some = row_of types.TSIG len B i (λ x. kinds.TSIG x) _ (fills_bytes len B i some)
    (λ x is. record { type_is = refl; word = is.0; readable = is.1 })
kind_row types.ZERO len B i some = no_row len B i
kind_row type len B i some = carried_row type len B i some refl

carried_at : (code : RecordType) (len : ℕ) (B : List ℕ) (i : ℕ) → IsTrue (is_carried code)
    → kind_at code len B i ≡ as_any (λ x. kinds.Unknown code x) (bytes_at len B i)
unfolding kind_at
carried_at types.ZERO len B i carried = cc
carried_at types.A len B i carried = cc
carried_at other len B i carried = cc

-- ---- reading, by kind

-- data that stands, in some bytes, is read
pub kind_again : (d : RData) (len : ℕ) (B : List ℕ) (i : ℕ) → 1 ≤ len → DataWord d B i (i + len) → IsReadable d
    → filling (type_of_data d) (i + len) (kind_at (type_of_data d) len B i) ≡ Ok (d, i + len)
unfolding kind_at
kind_again (kinds.A x) len B i some word readable =
    again_of types.A (i + len) (λ y. kinds.A y) _ (fills_a B i (i + len)) x (word, readable)
kind_again (kinds.AAAA x) len B i some word readable =
    again_of types.AAAA (i + len) (λ y. kinds.AAAA y) _ (fills_aaaa B i (i + len)) x (word, readable)
kind_again (kinds.NS x) len B i some word readable =
    again_of types.NS (i + len) (λ y. kinds.NS y) _ (fills_from (i + len) (tells_ns B i)) x (word, readable)
kind_again (kinds.CNAME x) len B i some word readable =
    again_of types.CNAME (i + len) (λ y. kinds.CNAME y) _ (fills_from (i + len) (tells_cname B i)) x (word, readable)
kind_again (kinds.PTR x) len B i some word readable =
    again_of types.PTR (i + len) (λ y. kinds.PTR y) _ (fills_from (i + len) (tells_ptr B i)) x (word, readable)
kind_again (kinds.ANAME x) len B i some word readable =
    again_of types.ANAME (i + len) (λ y. kinds.ANAME y) _ (fills_from (i + len) (tells_aname B i)) x (word, readable)
kind_again (kinds.MX x) len B i some word readable =
    again_of types.MX (i + len) (λ y. kinds.MX y) _ (fills_from (i + len) (tells_mx B i)) x (word, readable)
kind_again (kinds.SOA x) len B i some word readable =
    again_of types.SOA (i + len) (λ y. kinds.SOA y) _ (fills_from (i + len) (tells_soa B i)) x
    (word, readable.0, readable.1)
kind_again (kinds.SRV x) len B i some word readable =
    again_of types.SRV (i + len) (λ y. kinds.SRV y) _ (fills_from (i + len) (tells_srv B i)) x (word, readable)
kind_again (kinds.TXT x) len B i some word readable =
    again_of types.TXT (i + len) (λ y. kinds.TXT y) _ (fills_txt len B i some) x (word, readable)
kind_again (kinds.NULL x) len B i some word readable =
    again_of types.NULL (i + len) (λ y. kinds.NULL y) _ (fills_bytes len B i some) x (word, readable)
kind_again (kinds.OPT x) len B i some word readable =
    again_of types.OPT (i + len) (λ y. kinds.OPT y) _ (fills_options len B i some) x (word, readable)
kind_again (kinds.TSIG x) len B i some word readable =
    again_of types.TSIG (i + len) (λ y. kinds.TSIG y) _ (fills_bytes len B i some) x (word, readable)
kind_again (kinds.Update0 type) len B i some word readable = absurd (omega (arith, word.1))
kind_again (kinds.Unknown code x) len B i some word readable =
    ap (filling code (i + len)) (carried_at code len B i readable.0)
    ∙ again_of code (i + len) (λ y. kinds.Unknown code y) (bytes_at len B i) (fills_bytes len B i some) x
    (word, readable.1)

-- readable data has a byte at least, but for empty data
pub none_again : (d : RData) (B : List ℕ) (i : ℕ) → DataWord d B i (i + 0) → IsReadable d
    → d ≡ kinds.Update0 (type_of_data d)
none_again (kinds.A x) B i word readable = absurd (omega (arith, word.1, readable))
none_again (kinds.AAAA x) B i word readable = absurd (omega (arith, word.1, readable))
none_again (kinds.NS x) B i word readable = absurd (omega (arith, name_longer word.0))
none_again (kinds.CNAME x) B i word readable = absurd (omega (arith, name_longer word.0))
none_again (kinds.PTR x) B i word readable = absurd (omega (arith, name_longer word.0))
none_again (kinds.ANAME x) B i word readable = absurd (omega (arith, name_longer word.0))
none_again (kinds.MX x) B i word readable = absurd (omega (arith, mx_longer x B i (i + 0) word))
none_again (kinds.SOA x) B i word readable = absurd (omega (arith, soa_longer x B i (i + 0) word))
none_again (kinds.SRV x) B i word readable = absurd (omega (arith, srv_longer x B i (i + 0) word))
none_again (kinds.TXT x) B i word readable = absurd (omega (arith, word.1, some_strings x readable))
none_again (kinds.NULL x) B i word readable = absurd (omega (arith, word.1, some_bytes x readable))
none_again (kinds.OPT x) B i word readable =
    absurd (omega (arith, options_some x B i (i + 0) word (some_bytes x readable)))
none_again (kinds.TSIG x) B i word readable = absurd (omega (arith, word.1, some_bytes x readable))
none_again (kinds.Update0 type) B i word readable = refl
none_again (kinds.Unknown code x) B i word readable = absurd (omega (arith, word.1, some_bytes x readable.1))

-- data that begins inside the buffer ends inside it
pub data_inside : (d : RData) (B : List ℕ) (i e : ℕ) → i ≤ length B → DataWord d B i e → e ≤ length B
data_inside (kinds.A x) B i e inside h = bytes_inside x.octets B i e inside h
data_inside (kinds.AAAA x) B i e inside h = bytes_inside x.octets B i e inside h
data_inside (kinds.NS x) B i e inside h = name_inside x.name.labels B i e h
data_inside (kinds.CNAME x) B i e inside h = name_inside x.name.labels B i e h
data_inside (kinds.PTR x) B i e inside h = name_inside x.name.labels B i e h
data_inside (kinds.ANAME x) B i e inside h = name_inside x.name.labels B i e h
data_inside (kinds.MX x) B i e inside h = mx_inside x B i e h
data_inside (kinds.SOA x) B i e inside h = soa_inside x B i e h
data_inside (kinds.SRV x) B i e inside h = srv_inside x B i e h
data_inside (kinds.TXT x) B i e inside h = bytes_inside (wire_of x) B i e inside h
data_inside (kinds.NULL x) B i e inside h = bytes_inside x B i e inside h
data_inside (kinds.OPT x) B i e inside h = options_inside inside h
data_inside (kinds.TSIG x) B i e inside h = bytes_inside x B i e inside h
data_inside (kinds.Update0 type) B i e inside h = bytes_inside [] B i e inside h
data_inside (kinds.Unknown code x) B i e inside h = bytes_inside x B i e inside h

-- its names stand at the places that are said to be theirs
pub names_stand : (d : RData) (B : List ℕ) (i e : ℕ) → DataWord d B i e → IsReadable d
    → NamesStand B (data_places d B i) (data_names d)
names_stand (kinds.NS x) B i e word readable = one_more (here_name B i x.name e word readable) no_more
names_stand (kinds.CNAME x) B i e word readable = one_more (here_name B i x.name e word readable) no_more
names_stand (kinds.PTR x) B i e word readable = one_more (here_name B i x.name e word readable) no_more
names_stand (kinds.ANAME x) B i e word readable = one_more (here_name B i x.name e word readable) no_more
names_stand (kinds.MX x) B i e (m, preference, exchange) readable =
    subst (λ (k : ℕ). NamesStand B (k ∷ []) (x.exchange ∷ [])) preference.1
    (one_more (here_name B m x.exchange e exchange readable) no_more)
names_stand (kinds.SOA x) B i e (m, mname, (n, rname, numbers)) (first, second) =
    let stands = here_name B i x.mname m mname first in
    let at : m ≡ place_after (name_at B i) = sym (ap place_after (name_again B i x.mname m stands)) in
    one_more stands (subst (λ (k : ℕ). NamesStand B (k ∷ []) (x.rname ∷ [])) at
    (one_more (here_name B m x.rname n rname second) no_more))
names_stand (kinds.SRV x) B i e (second, priority, (third, weight, (fourth, port, target))) readable =
    let at : fourth ≡ i + 6 = omega (arith, priority.1, weight.1, port.1) in
    subst (λ (k : ℕ). NamesStand B (k ∷ []) (x.target ∷ [])) at
    (one_more (here_name B fourth x.target e target readable) no_more)
names_stand other B i e word readable = no_more

-- ---- signatures

pub signature_type : (d : RData) → is_signature_data d ≡ true → type_of_data d ≡ types.TSIG
signature_type (kinds.TSIG x) is = refl
signature_type _ is = cc

pub signature_is : (d : RData) → is_signature_data d ≡ true → d ≡ kinds.TSIG (signature_in d)
signature_is (kinds.TSIG x) is = refl
signature_is _ is = cc

-- ---- the order

-- all that the order looks at is the same exactly of equal data
pub same_data : (a b : RData) → KeptData a → KeptData b → IsSame a b ↔ IsTrue (equality.eq a b)
same_data (kinds.A x) (kinds.A y) p q = as_bytes (kinds.A x) (kinds.A y) refl refl refl
    (bytes_decides x.octets y.octets)
same_data (kinds.AAAA x) (kinds.AAAA y) p q =
    as_bytes (kinds.AAAA x) (kinds.AAAA y) refl refl refl (bytes_decides x.octets y.octets)
same_data (kinds.NS x) (kinds.NS y) p q =
    as_name (kinds.NS x) (kinds.NS y) x.name y.name refl refl (λ e. e) (λ e. e) (flag_of 0 _ _) (λ e i. e i ∷ [])
same_data (kinds.CNAME x) (kinds.CNAME y) p q =
    as_name (kinds.CNAME x) (kinds.CNAME y) x.name y.name refl refl (λ e. e) (λ e. e) (flag_of 0 _ _) (λ e i. e i ∷ [])
same_data (kinds.PTR x) (kinds.PTR y) p q =
    as_name (kinds.PTR x) (kinds.PTR y) x.name y.name refl refl (λ e. e) (λ e. e) (flag_of 0 _ _) (λ e i. e i ∷ [])
same_data (kinds.ANAME x) (kinds.ANAME y) p q =
    as_name (kinds.ANAME x) (kinds.ANAME y) x.name y.name refl refl (λ e. e) (λ e. e) (flag_of 0 _ _) (λ e i. e i ∷ [])
same_data (kinds.MX x) (kinds.MX y) p q = mx_is x y p q
same_data (kinds.SOA x) (kinds.SOA y) p q = soa_is x y p q
same_data (kinds.SRV x) (kinds.SRV y) p q = srv_is x y p q
same_data (kinds.TXT x) (kinds.TXT y) p q =
    as_bytes (kinds.TXT x) (kinds.TXT y) refl refl refl (bytes_decides (wire_of x) (wire_of y))
same_data (kinds.NULL x) (kinds.NULL y) p q = as_bytes (kinds.NULL x) (kinds.NULL y) refl refl refl (bytes_decides x y)
same_data (kinds.OPT x) (kinds.OPT y) p q =
    let d = options_decide x y in
    as_bytes (kinds.OPT x) (kinds.OPT y) refl refl refl
    (λ h. ap options_wire (d.0 h), λ e. d.1 (options_same x y p q e))
same_data (kinds.TSIG x) (kinds.TSIG y) p q = as_bytes (kinds.TSIG x) (kinds.TSIG y) refl refl refl (bytes_decides x y)
same_data (kinds.Update0 x) (kinds.Update0 y) p q =
    let d = types_Decide x y in
    (λ s. d.1 s.type, λ h. record { bytes = refl; type = d.0 h; rank = refl; flags = refl })
same_data (kinds.Unknown code x) (kinds.Unknown other y) p q =
    let t = types_Decide code other in
    let d = bytes_decides x y in (
      λ s. both _ _ (t.1 s.type) (d.1 s.bytes),
      λ h. record {
        bytes = d.0 (second_so (same_type code other) _ h);
        type =
            t.0 (first_so (same_type code other) _ h);
        rank = refl;
        flags = refl;
      },
    )
same_data a b p q = apart a b refl refl
