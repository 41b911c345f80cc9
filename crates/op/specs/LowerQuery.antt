-- Questions with their names in lower case.
use Rattle.std.specs.Prelude.{ℕ, List, ◌++◌, codes}
use Rattle.base.specs.DNSClass.{class_text}
use Rattle.base.specs.names.NameOrder.{lowered}
use Rattle.base.specs.texts.NameText.{name_text}
use Rattle.base.specs.RecordType.{type_text}
use Rattle.op.specs.declared.query.Query.{Query}

-- the name in lower case, type and class
abbrev pub lower_query_text : Query → List ℕ
lower_query_text q = codes "name: "
    ++ (name_text (lowered q.name)
    ++ (codes " type: "
    ++ (type_text q.query_type ++ (codes " class: " ++ class_text q.query_class))))
