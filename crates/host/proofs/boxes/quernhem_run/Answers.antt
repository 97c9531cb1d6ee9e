-- What the run over tables of its own came to is told.
use Rattle.host.proofs.boxes.quernhem_run.Goals as goal

pub returns : goal.returns
returns c =
    let e = c.run_lent-done.ensures in
    record { told = c.tell.ensures _ _ e.0; spaced = e.1.0; roomy = e.1.1.0; stacked = e.1.1.1 }
