use Rattle.std.proofs.Common.{Some, sym, ap, ◌∙◌, subst}
use Rattle.model.specs.Lines as model
use Rattle.kinds.specs.Contents.{StandsFor}
use Rattle.looking.proofs.Left.{cut_within, cut_left, left_more, left_shows, given_goes}
use Rattle.looking.proofs.Showing.{content_right}
use Rattle.looking.proofs.Trailing.{whole_of, whole_goes}
use Rattle.looking.proofs.shown.filed_content.Goals as goal

pub returns-in_default : goal.returns-in_default
returns-in_default c ps e l s settled =
    let w = whole_of ps c.args.byte e s in
    absurd (c.in_default.ensures ps w.place l (cut_within ps w.place w.cut) w.begins)

pub returns-in-Some-next : goal.returns-in-Some-next
returns-in-Some-next c ps e l s settled =
    let at = c.in-Some.cursor in
    let own = c.in-Some-next.own in
    let w = whole_of ps c.args.byte e s in
    let rest = cut_left at.file.now at.at ps w.place w.cut (c.in-Some.ensures ps w.place l (cut_within ps w.place w.cut) w.begins) in
    let shows = left_shows at.file.now at.at _ _ _ own w.cut.line w.cut.more rest c.in-Some-next.ensures.steps.comes in
    let left = given_goes at c.next.new.self (Some own) w.cut.line w.cut.more rest c.in-Some-next.ensures.steps in
    let goes = whole_goes ps c.args.byte e w in
    subst (λ r. StandsFor r e.payload) (sym (c.content_behind.ensures w.cut.more (left.are, left.good) goes.on goes.decides))
    (content_right own.line.payload goes.on e.payload (shows.value ∙ ap (λ (x : model.Line). x.value) w.line) goes.alone goes.followed settled)

pub returns-in-None : goal.returns-in-None
returns-in-None c ps e l s settled =
    let at = c.in-Some.cursor in
    let w = whole_of ps c.args.byte e s in
    let rest = cut_left at.file.now at.at ps w.place w.cut (c.in-Some.ensures ps w.place l (cut_within ps w.place w.cut) w.begins) in
    absurd (left_more at.file.now at.at w.cut.line w.cut.more rest c.in-None.ensures.steps.1)
