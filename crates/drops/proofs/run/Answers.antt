-- What the trials leave can be handed out.
use Rattle.drops.proofs.Running.{finished_narrow}
use Rattle.drops.proofs.run.Goals as goal

pub hand_out-requires-clause-narrow : goal.hand_out-requires-clause-narrow
hand_out-requires-clause-narrow c =
    let r = c.args.ready.ready in
    finished_narrow r.limits r.loose c.run_in_cells-used.ensures
