-- What is known of what is written of a question.
use Rattle.std.proofs.Common.{ℕ, ◌^◌, ◌<◌, List, subst, arith}
use Rattle.std.specs.Int.{w16, to_be_bytes}
use Rattle.base.specs.names.Labels.{AreNameLabels}
use Rattle.base.specs.writing.Says.{Says}
use Rattle.base.specs.writing.SaysName.{Says-name}
use Rattle.base.specs.writing.SaysParts.{Says-both, Says-number, Says-weaker}
use Rattle.base.specs.Words.{IsNumberAt, NameAt, Number, Then}
use Rattle.base.specs.writing.Written.{both, just, name}
use Rattle.op.specs.Query.{QueryWord, plain_query, query_written, raw_query}
use Rattle.op.specs.declared.query.Query.{Query}

-- what the types keep of a question: its labels are those of a name, and type and class have two bytes
abbrev pub QueryKept : Query → Type 0
QueryKept q = let raw = raw_query q in AreNameLabels raw.labels
    × ((raw.type < 2 ^ 16) × (raw.class < 2 ^ 16))

-- name, type and class one after another are the fields of a question
question_word : (q : Query) (B : List ℕ) (i e : ℕ) → let raw = raw_query q
    in Then (NameAt raw.labels) (Then (Number w16 raw.type) (Number w16 raw.class)) B i e
    → QueryWord q B i e
question_word q B i e (m, owner, (n, (type, after_type), (class, after_class))) = record {
  owner_end = m;
  owner = owner;
  type_stands = type;
  class_stands = subst (λ k. IsNumberAt w16 B k (raw_query q).class) after_type class;
  end = omega arith;
}

-- where what is written of a question stands, the question stands
pub query_says : (q : Query)
    → Says (query_written q) (QueryKept q) (QueryWord q) (plain_query q) q.name.labels
query_says q =
    let raw = raw_query q in
    let type = just (to_be_bytes w16 raw.type) in
    let class = just (to_be_bytes w16 raw.class) in
    Says-weaker (query_written q) (QueryKept q) (λ ok. ok) (λ ok. question_word q)
    (omega arith) (Says-both (name raw.labels) (both type class) (Says-name raw.labels)
    (Says-both type class (Says-number raw.type) (Says-number raw.class)))
