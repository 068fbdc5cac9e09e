-- The examples hold. Assumes nothing.
use Rattle.std.proofs.Common.{◌≡◌, Some, codes, sym, refl, ap, ◌∙◌}
use Prim.Native.String.{String}
use lib.Utf8.{encode}
use Rattle.std.proofs.lemmas.Bool.Decides.{not_from_Decides}
use Rattle.model.specs.Grammar.{is_date_value, is_exact, is_time, is_age}
use Rattle.model.specs.Lines.{Line, TextLine}
use Rattle.model.specs.Scan.{parse}
use Rattle.model.specs.Examples.{words, TheLine, note, WorkedExamples, RemovalExamples}
use Rattle.model.proofs.Options.{some_same}
use Rattle.model.proofs.Scanning.{parse_sound, parse_complete, none_spelled}
use Rattle.model.proofs.Dates.{date_decides, date_value_decides, exact_decides}
use Rattle.model.proofs.Times.{time_decides, age_decides}
use Rattle.model.proofs.Smallest.{smallest_tree}

the_line : (bytes : String) (l : Line) → TextLine (codes bytes) → parse (codes bytes) ≡ Some l → TheLine bytes l
the_line bytes l t e =
    let found = parse_sound (codes bytes) l t e in
    record { good = found.1; spelled = found.0; alone = λ k g s. some_same k l (sym (parse_complete k g) ∙ ap parse s ∙ e) }

spaced : TextLine (codes "1 NOTE  a")
unfolding encode
spaced = record { clean = record { characters = codes "1 NOTE  a"; real = refl; allowed = refl; are = refl }; one = refl }

marked : TextLine (codes "1 NOTE @@")
unfolding encode
marked = record { clean = record { characters = codes "1 NOTE @@"; real = refl; allowed = refl; are = refl }; one = refl }

pub worked : WorkedExamples
worked = record {
  a_date = (date_decides (words "HEBREW 1 TSH 5784")).0 refl;
  no_epoch = not_from_Decides (is_date_value (words "HEBREW 1 TSH 5784 BCE")) (date_value_decides (words "HEBREW 1 TSH 5784 BCE")) refl;
  no_day = not_from_Decides (is_exact (words "MAY 1990")) (exact_decides (words "MAY 1990")) refl;
  last_minute = (time_decides (codes "23:59")).0 refl;
  no_minute = not_from_Decides (is_time (codes "24:00")) (time_decides (codes "24:00")) refl;
  an_age = (age_decides (words "> 3y 2d")).0 refl;
  no_age = not_from_Decides (is_age (words ">3y")) (age_decides (words ">3y")) refl;
  space_last = none_spelled (codes "1 NOTE ") refl;
  space_first = the_line "1 NOTE  a" (note " a") spaced refl;
  two_marks = the_line "1 NOTE @@" (note "@") marked refl;
  one_mark = none_spelled (codes "1 NOTE @") refl;
  smallest_tree = smallest_tree;
}

pub removals : RemovalExamples
removals = record {
  with_substructures = refl;
  record_goes = refl;
  everywhere = refl;
  not_the_only = refl;
  text_emptied = refl;
  pointer_voided = refl;
  version_held = refl;
  number_held = refl;
  latitude_emptied = refl;
  left_bare_twice = refl;
  record_left_bare = refl;
  excused = refl;
  header_stays = refl;
}
