-- What an entry says of how often its tag may stand. Assumes nothing.
use Rattle.std.specs.Prelude.{Bool, true, false}
use Rattle.books.specs.declared.home.table.Times.{Times}
use Rattle.books.specs.declared.home.table.Times.TheVariants.{AtMostOnce, Once, Often}

abbrev pub is_required : Times → Bool
is_required AtMostOnce = false
is_required Once = true
is_required Often = false

abbrev pub is_many : Times → Bool
is_many AtMostOnce = false
is_many Once = false
is_many Often = true
