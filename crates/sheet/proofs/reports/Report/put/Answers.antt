-- The line is copied in behind the others, where there is room (`lined`).
use Rattle.sheet.proofs.Reported.{lined, has_room}
use Rattle.sheet.proofs.reports.Report.put.Goals as goal

pub returns-then-fits : goal.returns-then-fits
returns-then-fits c = λ m f l e w. rw (c.copy_in.ensures, c.from.ensures) (lined l m w e f)

pub returns-else-fits : goal.returns-else-fits
returns-else-fits c = λ m f l e w. let room = has_room l m w e f in let len = c.from.ensures in let fits = c.fits.ensures in cc
