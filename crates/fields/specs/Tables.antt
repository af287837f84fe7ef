-- The fields that a table in the code writes down. Assumes nothing.
use Rattle.std.specs.Prelude.{List, map}
use Rattle.fields.specs.declared.Values.{Values}
use Rattle.fields.specs.declared.Values.TheVariants.{UpTo, Between, OneOf}
use Rattle.fields.specs.declared.Field.{Field}
use Rattle.fields.specs.Fields as spec

abbrev pub values_of : Values → spec.Values
values_of (UpTo most) = spec.up_to most
values_of (Between least most) = spec.between least most
values_of (OneOf ns) = spec.one_of ns.now

abbrev pub field_of : Field → spec.Field
field_of f = spec.field f.name.now (values_of f.values)

abbrev pub fields_of : List Field → List spec.Field
fields_of table = map field_of table
