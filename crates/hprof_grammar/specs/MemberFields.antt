-- Maps the code's types for the fields of a class to the types of the definitions.
use Rattle.hprof_grammar.specs.Series.{LabelledValue}
use Rattle.hprof_grammar.specs.SubRecord.{Member}
use Rattle.hprof_grammar.specs.declared.view.members.MemberField.{MemberField}
use Rattle.hprof_grammar.specs.declared.view.values.TypedValue.{TypedValue}

abbrev pub member_of : MemberField → Member
member_of field = record { name = field.name; type = field.type_code }

abbrev pub value_of : TypedValue → LabelledValue
value_of field = record { label = field.label; type = field.type_code; value = field.value.now }
