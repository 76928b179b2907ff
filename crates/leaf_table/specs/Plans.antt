-- What contracts see of a plan of any call that takes no bundle, and of any step of a guest.
use Rattle.std.specs.Prelude.{ℕ, ◌+◌, ◌-◌, ◌%◌, ◌^◌, ◌==◌, ◌&&◌, not, nat_lt, nat_le, Bool, true, false, List, [], ◌∷◌, length, drop, slice_index}
use Rattle.td_words.specs.declared.names.LifeState.TheVariants as life
use Rattle.td_words.specs.declared.names.OpState.TheVariants as op
use Rattle.td_words.specs.Packing.{Unassigned, FlushedOf}
use Rattle.td_words.specs.Place.{Word}
use Rattle.sept_walk.specs.SecureEpt.{index_at}
use Rattle.leaf_engine.specs.declared.needs.Place.{Place}
use Rattle.leaf_engine.specs.declared.plans.Act.{Act}
use Rattle.leaf_engine.specs.Changes.{Change, Put, Clear}
use Rattle.leaf_engine.specs.Trees.{feed, changes_of}
use Rattle.leaf_engine.specs.Means.{Task, MeansRow}
use Rattle.leaf_parts.specs.ListTrees.{list_changes}
use Rattle.leaf_parts.specs.Words.{is_hkid}
use Rattle.td_words.specs.declared.names.Access.TheVariants as access
use Rattle.flat_core.specs.Tree.{word_of_gpa}
use Rattle.flat_core.specs.Guest.{shared_page}
use Rattle.access_core.specs.HostTrees.{host_read_task, host_write_task}
use Rattle.access_core.specs.OperationTrees.{put_register, put_next, set_task, add_task as sum_task, vmcall_task, shared_load_task, shared_store_task}
use Rattle.access_core.specs.AcceptTrees.{accept_changes, is_cleared_in, accept_task}
use Rattle.access_core.specs.RtmrTrees.{rtmr_changes, rtmr_task}
use Rattle.access_core.specs.ReachTrees.{access_task}
use Rattle.access_core.specs.WalkTrees.{walk_task}
use Rattle.vcpu_control.specs.EnterTrees.{enter_changes, vp_enter_task}
use Rattle.vcpu_control.specs.ExitTrees.{exit_changes, exit_task}
use Rattle.vcpu_control.specs.FlushTrees.{flush_changes, vp_flush_task}
use Rattle.access_core.specs.OperationMeanings.{set-means, add-means as sum-means, vmcall-means, shared_load-means, shared_store-means}
use Rattle.access_core.specs.AcceptMeanings.{accept-means}
use Rattle.access_core.specs.RtmrMeanings.{rtmr-means}
use Rattle.access_core.specs.ReachMeanings.{accesses-mean}
use Rattle.access_core.specs.WalkMeanings.{walks-mean}
use Rattle.vcpu_control.specs.EnterMeans.{entry-means}
use Rattle.vcpu_control.specs.ExitMeans.{exit-means}
use Rattle.vcpu_control.specs.FlushMeans.{flush-means as vp_flush-means}
use Rattle.mem_remove.specs.MetadataTrees.{rdmd_task}
use Rattle.mem_remove.specs.TrackTrees.{track_task, track_changes}
use Rattle.mem_remove.specs.RangeTrees.{range_block_task, block_changes, range_unblock_task, unblock_changes}
use Rattle.mem_remove.specs.RemoveTrees.{page_remove_task, remove_changes}
use Rattle.relocate_core.specs.RelocateTrees.{page_relocate_task, all_changes}
use Rattle.export_core.specs.StreamTrees.{stream_create_task, stream_list}
use Rattle.export_core.specs.WriteTrees.{block_write_task, unblock_write_task}
use Rattle.stream_parts.specs.AloneTrees.{op_changes}
use Rattle.export_core.specs.PauseTrees.{pause_task, abort_task}
use Rattle.export_core.specs.RestoreTrees.{restore_task}
use Rattle.export_sessions.specs.SessionTrees.{immutable_task}
use Rattle.export_tokens.specs.TokenTrees.{token_task, token_changes}
use Rattle.export_states.specs.VpStateTrees.{vp_state_task}
use Rattle.import_core.specs.CommitTrees.{commit_task, import_end_task}
use Rattle.import_core.specs.AbortTrees.{import_abort_task}
use Rattle.key_table.specs.CacheTrees.{cache_task, cache_changes}
use Rattle.key_table.specs.ReclaimTrees.{reclaim_task, give_back}
use Rattle.td_control.specs.CreationTrees.{create_task, create_changes}
use Rattle.td_control.specs.KeyTrees.{configure_task, configure_changes}
use Rattle.td_control.specs.AddTrees.{add_task, control_list}
use Rattle.td_control.specs.InitTrees.{init_task, init_changes}
use Rattle.td_control.specs.FinalTrees.{finalize_task, final_changes}
use Rattle.td_control.specs.ReadTrees.{read_task}
use Rattle.key_table.specs.FlushTrees.{flush_task}
use Rattle.key_table.specs.EndTrees.{free_task, end_changes}
use Rattle.vcpu_control.specs.VpTrees.{vp_create_task, vp_init_task, vp_list}
use Rattle.vcpu_control.specs.VpTrees as vp
use Rattle.sept_parts.specs.MapTrees.{map_changes}
use Rattle.mem_build.specs.SeptAddTrees.{sept_add_task, sept_mapping}
use Rattle.mem_build.specs.PageAddTrees.{page_add_task, addition, added_changes}
use Rattle.mem_build.specs.SeptReadTrees.{sept_read_task}
use Rattle.mem_build.specs.PageAugTrees.{page_aug_task, page_aug_mapping}
use Rattle.access_core.specs.HostMeanings.{host_read-means, host_write-means}
use Rattle.mem_remove.specs.MetadataMeanings.{rdmd-means}
use Rattle.mem_remove.specs.TrackMeanings.{track-means}
use Rattle.mem_remove.specs.BlockMeanings.{range_block-means, range_unblock-means}
use Rattle.mem_remove.specs.RemoveMeanings.{page_remove-means}
use Rattle.relocate_core.specs.RelocateMeanings.{page_relocate-means}
use Rattle.export_core.specs.StreamMeanings.{stream_create-means}
use Rattle.export_core.specs.BlockMeanings.{block_write-means}
use Rattle.export_core.specs.WriteMeanings.{unblock_write-means}
use Rattle.export_core.specs.PauseMeanings.{pause-means, abort-means}
use Rattle.export_core.specs.RestoreMeanings.{restore-means}
use Rattle.export_sessions.specs.SessionMeanings.{immutable-means}
use Rattle.export_tokens.specs.TokenMeanings.{token-means}
use Rattle.export_states.specs.VpStateMeanings.{vp_state-means}
use Rattle.import_core.specs.CommitMeanings.{commit-means, import_end-means}
use Rattle.import_core.specs.AbortMeanings.{import_abort-means}
use Rattle.key_table.specs.CacheMeanings.{cache-means}
use Rattle.key_table.specs.ReclaimMeanings.{reclaim-means}
use Rattle.td_control.specs.CreationMeanings.{create-means}
use Rattle.td_control.specs.KeyMeanings.{configure-means}
use Rattle.td_control.specs.AddMeanings.{add-means}
use Rattle.td_control.specs.ReadMeanings.{read-means}
use Rattle.td_control.specs.InitMeanings.{init-means}
use Rattle.td_control.specs.FinalMeanings.{finalize-means}
use Rattle.key_table.specs.FlushMeanings.{flush-means}
use Rattle.key_table.specs.EndMeanings.{free-means}
use Rattle.vcpu_control.specs.VpMeanings.{vp_create-means, vp_init-means}
use Rattle.mem_build.specs.SeptAddMeanings.{sept_add-means}
use Rattle.mem_build.specs.SeptReadMeanings.{sept_read-means}
use Rattle.mem_build.specs.PageAugMeanings.{page_aug-means}
use Rattle.mem_build.specs.PageAddMeanings.{page_add-means}
use Rattle.leaf_table.specs.declared.plans.AnyPlan.{AnyPlan}
use Rattle.leaf_table.specs.declared.plans.AnyPlan.TheVariants as plan

-- what it has to do, call by call
abbrev pub plan_task : AnyPlan → Task
plan_task (plan.HostRead l) = host_read_task l.place l.page l.word
plan_task (plan.HostWrite l) = host_write_task l.place l.page l.word l.value
plan_task (plan.Rdmd l) = rdmd_task l.place l.page
plan_task (plan.CacheWb l) = cache_task l.place
plan_task (plan.Reclaim l) = reclaim_task l.place l.tdr l.page
plan_task (plan.Create l) = create_task l.place l.tdr l.hkid
plan_task (plan.KeyConfig l) = configure_task l.place l.tdr
plan_task (plan.AddCx l) = add_task l.place l.tdr l.page
plan_task (plan.Init l) = init_task l.place l.tdr
plan_task (plan.Rd l) = read_task l.place l.tdr l.field
plan_task (plan.FlushDone l) = flush_task l.place l.tdr
plan_task (plan.FreeId l) = free_task l.place l.tdr
plan_task (plan.Finalize l) = finalize_task l.place l.tdr
plan_task (plan.VpCreate l) = vp_create_task l.place l.tdr l.page
plan_task (plan.VpInit l) = vp_init_task l.place l.tdr l.vp l.value
plan_task (plan.VpFlush l) = vp_flush_task l.place l.tdr l.vp
plan_task (plan.SeptAdd l) = sept_add_task l.place l.tdr l.gpa l.level l.page
plan_task (plan.SeptRd l) = sept_read_task l.place l.tdr l.gpa l.level
plan_task (plan.PageAdd l) = page_add_task l.place l.given.tdr l.given.gpa l.given.page l.given.source
plan_task (plan.PageAug l) = page_aug_task l.place l.tdr l.gpa l.page
plan_task (plan.PageRemove l) = page_remove_task l.place l.tdr l.gpa
plan_task (plan.PageRelocate l) = page_relocate_task l.place l.tdr l.gpa l.page
plan_task (plan.RangeBlock l) = range_block_task l.place l.tdr l.gpa l.level
plan_task (plan.RangeUnblock l) = range_unblock_task l.place l.tdr l.gpa l.level
plan_task (plan.Track l) = track_task l.place l.tdr
plan_task (plan.StreamCreate l) = stream_create_task l.place l.tdr l.page
plan_task (plan.BlockW l) = block_write_task l.place l.tdr l.gpa
plan_task (plan.UnblockW l) = unblock_write_task l.place l.tdr l.gpa
plan_task (plan.Pause l) = pause_task l.place l.tdr
plan_task (plan.Abort l) = abort_task l.place l.tdr
plan_task (plan.Restore l) = restore_task l.place l.tdr l.gpa
plan_task (plan.Immutable l) = immutable_task l.place l.tdr l.slot
plan_task (plan.Token l) = token_task l.place l.tdr l.slot l.start
plan_task (plan.StateVp l) = vp_state_task l.place l.tdr l.vp l.slot
plan_task (plan.Commit l) = commit_task l.place l.tdr
plan_task (plan.ImportEnd l) = import_end_task l.place l.tdr
plan_task (plan.ImportAbort l) = import_abort_task l.place l.tdr l.slot
plan_task (plan.Enter l) = vp_enter_task l.place l.tdr l.vp l.most
plan_task (plan.Exit l) = exit_task l.place l.tdr l.vp l.outcome
plan_task (plan.Set l) = set_task l.place l.tdr l.vp l.register l.value
plan_task (plan.Sum l) = sum_task l.place l.tdr l.vp l.register l.other
plan_task (plan.Rtmr l) = rtmr_task l.place l.tdr l.vp l.line l.index
plan_task (plan.Accept l) = accept_task l.place l.tdr l.vp l.gpa
plan_task (plan.Vmcall l) = vmcall_task l.place l.tdr l.vp l.register
plan_task (plan.SharedLoad l) = shared_load_task l.place l.tdr l.vp l.line l.register l.gpa
plan_task (plan.SharedStore l) = shared_store_task l.place l.tdr l.vp l.register l.gpa
plan_task (plan.PrivateLoad l) = access_task l.place l.tdr l.vp l.line access.Read l.register l.gpa l.page
plan_task (plan.PrivateStore l) = access_task l.place l.tdr l.vp l.line access.Write l.register l.gpa l.page
plan_task (plan.WalkLoad l) = walk_task l.place l.tdr l.vp l.access l.gpa l.level l.page

-- all that it changes, in order
abbrev pub plan_changes : AnyPlan → List ℕ → Act → List Change
plan_changes (plan.HostRead l) told a = []
plan_changes (plan.HostWrite l) told a = Put (Word l.page l.word) l.value ∷ []
plan_changes (plan.Rdmd l) told a = []
plan_changes (plan.CacheWb l) told a = cache_changes l.place.machine told
plan_changes (plan.Reclaim l) told a = give_back l.tdr l.page (l.page == l.tdr) a.children
plan_changes (plan.Create l) told a = create_changes l.tdr l.hkid
plan_changes (plan.KeyConfig l) told a = configure_changes l.tdr
plan_changes (plan.AddCx l) told a = list_changes (control_list l.tdr) l.place.machine.pages l.tdr l.page a.count a.children
plan_changes (plan.Init l) told a = init_changes l.place.machine a.page a.hkid
plan_changes (plan.Rd l) told a = []
plan_changes (plan.FlushDone l) told a = end_changes l.place.machine l.tdr a.hkid (FlushedOf l.tdr false) life.Blocked
plan_changes (plan.FreeId l) told a = end_changes l.place.machine l.tdr a.hkid Unassigned life.Teardown
plan_changes (plan.Finalize l) told a = final_changes l.place.machine a.page a.hkid
plan_changes (plan.VpCreate l) told a = list_changes (vp_list a.page) l.place.machine.pages l.tdr l.page a.count a.children
plan_changes (plan.VpInit l) told a = vp.init_changes l.vp l.value
plan_changes (plan.VpFlush l) told a = flush_changes l.vp
plan_changes (plan.SeptAdd l) told a = Clear l.page ∷ map_changes l.place.machine.pages (sept_mapping l.tdr l.gpa l.level l.page) a.page a.children
plan_changes (plan.SeptRd l) told a = []
plan_changes (plan.PageAdd l) told a = added_changes l.place.machine (addition l.given.tdr l.given.gpa l.given.page l.given.source a)
plan_changes (plan.PageAug l) told a = map_changes l.place.machine.pages (page_aug_mapping l.tdr l.gpa l.page) a.page a.children
plan_changes (plan.PageRemove l) told a = remove_changes l.tdr a.page (index_at 0 l.gpa) a.named a.children
plan_changes (plan.PageRelocate l) told a = all_changes l.tdr a.page (index_at 0 l.gpa) a.state a.named l.page
plan_changes (plan.RangeBlock l) told a = block_changes l.tdr l.level a.page (index_at l.level l.gpa) a.named a.state a.epoch
plan_changes (plan.RangeUnblock l) told a = unblock_changes a.page (index_at l.level l.gpa) a.named a.state
plan_changes (plan.Track l) told a = track_changes a.page a.epoch
plan_changes (plan.StreamCreate l) told a = list_changes (stream_list a.page) l.place.machine.pages l.tdr l.page a.count a.children
plan_changes (plan.BlockW l) told a = changes_of (feed (block_write_task l.place l.tdr l.gpa).tree told)
plan_changes (plan.UnblockW l) told a = changes_of (feed (unblock_write_task l.place l.tdr l.gpa).tree told)
plan_changes (plan.Pause l) told a = op_changes op.PausedExport a.page
plan_changes (plan.Abort l) told a = op_changes op.Runnable a.page
plan_changes (plan.Restore l) told a = changes_of (feed (restore_task l.place l.tdr l.gpa).tree told)
plan_changes (plan.Immutable l) told a = changes_of (feed (immutable_task l.place l.tdr l.slot).tree told)
plan_changes (plan.Token l) told a = token_changes l.start a.page a.named a.epoch a.count
plan_changes (plan.StateVp l) told a = changes_of (feed (vp_state_task l.place l.tdr l.vp l.slot).tree told)
plan_changes (plan.Commit l) told a = op_changes op.LiveImport a.page
plan_changes (plan.ImportEnd l) told a = op_changes op.Runnable a.page
plan_changes (plan.ImportAbort l) told a = op_changes op.FailedImport a.page
plan_changes (plan.Enter l) told a = enter_changes a.page l.place.lp l.vp a.count
plan_changes (plan.Exit l) told a = exit_changes a.page a.count
plan_changes (plan.Set l) told a = put_register l.vp l.register l.value ∷ put_next l.vp (slice_index told 0) ∷ []
plan_changes (plan.Sum l) told a = put_register l.vp l.register ((slice_index told 1 + slice_index told 2) % 2 ^ 64) ∷ put_next l.vp (slice_index told 0) ∷ []
plan_changes (plan.Rtmr l) told a = rtmr_changes l.vp l.index a.page a.count (drop 2 told)
plan_changes (plan.Accept l) told a = accept_changes l.vp l.gpa a.page a.count a.cleared
plan_changes (plan.Vmcall l) told a = put_next l.vp (slice_index told 0) ∷ []
plan_changes (plan.SharedLoad l) told a = put_register l.vp l.register (slice_index told 3) ∷ put_next l.vp (slice_index told 2) ∷ []
plan_changes (plan.SharedStore l) told a = Put (Word (shared_page l.gpa) (word_of_gpa l.gpa)) (slice_index told 3) ∷ put_next l.vp (slice_index told 2) ∷ []
plan_changes (plan.PrivateLoad l) told a = put_register l.vp l.register (slice_index told 1) ∷ put_next l.vp (slice_index told 0) ∷ []
plan_changes (plan.PrivateStore l) told a = Put (Word l.page (word_of_gpa l.gpa)) (slice_index told 1) ∷ put_next l.vp (slice_index told 0) ∷ []
plan_changes (plan.WalkLoad l) told a = []

-- what its conditions have shown
abbrev pub is_page : Place → ℕ → Bool
is_page p page = nat_lt page p.machine.pages

abbrev pub plan_shown : AnyPlan → List ℕ → Act → Bool
plan_shown (plan.HostRead l) told a = true
plan_shown (plan.HostWrite l) told a = is_page l.place l.page && nat_lt l.word 512
plan_shown (plan.Rdmd l) told a = true
plan_shown (plan.CacheWb l) told a = nat_lt l.place.machine.hkids (length told)
plan_shown (plan.Reclaim l) told a = is_page l.place l.tdr && is_page l.place l.page
plan_shown (plan.Create l) told a = is_page l.place l.tdr && is_hkid l.place.machine l.hkid
plan_shown (plan.KeyConfig l) told a = is_page l.place l.tdr
plan_shown (plan.AddCx l) told a = is_page l.place l.tdr && is_page l.place l.page && nat_lt a.count 2
plan_shown (plan.Init l) told a = is_page l.place a.page
plan_shown (plan.Rd l) told a = true
plan_shown (plan.FlushDone l) told a = is_page l.place l.tdr
plan_shown (plan.FreeId l) told a = is_page l.place l.tdr
plan_shown (plan.Finalize l) told a = is_page l.place a.page
plan_shown (plan.VpCreate l) told a = is_page l.place l.tdr && is_page l.place l.page && is_page l.place a.page && nat_lt a.count 8
plan_shown (plan.VpInit l) told a = is_page l.place l.vp
plan_shown (plan.VpFlush l) told a = is_page l.place l.vp
plan_shown (plan.SeptAdd l) told a = is_page l.place l.tdr && is_page l.place l.page && is_page l.place a.page && nat_le l.level 3
plan_shown (plan.SeptRd l) told a = true
plan_shown (plan.PageAdd l) told a = is_page l.place l.given.tdr && is_page l.place l.given.page && is_page l.place l.given.source && not (l.given.source == l.given.page) && is_page l.place a.page
plan_shown (plan.PageAug l) told a = is_page l.place l.tdr && is_page l.place l.page && is_page l.place a.page
plan_shown (plan.PageRemove l) told a = is_page l.place l.tdr && is_page l.place a.page && is_page l.place a.named
plan_shown (plan.PageRelocate l) told a = is_page l.place l.tdr && is_page l.place l.page && is_page l.place a.page && is_page l.place a.named && not (l.page == a.named)
plan_shown (plan.RangeBlock l) told a = is_page l.place l.tdr && nat_le l.level 3 && is_page l.place a.page && is_page l.place a.named
plan_shown (plan.RangeUnblock l) told a = nat_le l.level 3 && is_page l.place a.page && is_page l.place a.named
plan_shown (plan.Track l) told a = is_page l.place a.page && nat_lt a.epoch (2 ^ 32 - 1)
plan_shown (plan.StreamCreate l) told a = is_page l.place l.tdr && is_page l.place l.page && is_page l.place a.page && nat_lt a.count 4
plan_shown (plan.BlockW l) told a = true
plan_shown (plan.UnblockW l) told a = true
plan_shown (plan.Pause l) told a = is_page l.place a.page
plan_shown (plan.Abort l) told a = is_page l.place a.page
plan_shown (plan.Restore l) told a = true
plan_shown (plan.Immutable l) told a = true
plan_shown (plan.Token l) told a = is_page l.place a.page && is_page l.place a.named && nat_lt a.count (2 ^ 32 - 1)
plan_shown (plan.StateVp l) told a = true
plan_shown (plan.Commit l) told a = is_page l.place a.page
plan_shown (plan.ImportEnd l) told a = is_page l.place a.page
plan_shown (plan.ImportAbort l) told a = is_page l.place a.page
plan_shown (plan.Enter l) told a = is_page l.place l.vp && is_page l.place a.page
plan_shown (plan.Exit l) told a = is_page l.place a.page
plan_shown (plan.Set l) told a = true
plan_shown (plan.Sum l) told a = true
plan_shown (plan.Rtmr l) told a = is_page l.place a.page && nat_le 15 (length told)
plan_shown (plan.Accept l) told a = is_page l.place a.page && is_cleared_in l.place.machine.pages a.cleared
plan_shown (plan.Vmcall l) told a = true
plan_shown (plan.SharedLoad l) told a = true
plan_shown (plan.SharedStore l) told a = is_page l.place (shared_page l.gpa)
plan_shown (plan.PrivateLoad l) told a = true
plan_shown (plan.PrivateStore l) told a = true
plan_shown (plan.WalkLoad l) told a = true

-- each means its row
pub plans-mean : (l : AnyPlan) → MeansRow (plan_task l)
plans-mean (plan.HostRead l) = host_read-means l.place l.page l.word
plans-mean (plan.HostWrite l) = host_write-means l.place l.page l.word l.value
plans-mean (plan.Rdmd l) = rdmd-means l.place l.page l.few_pages
plans-mean (plan.CacheWb l) = cache-means l.place
plans-mean (plan.Reclaim l) = reclaim-means l.place l.tdr l.page l.few_pages
plans-mean (plan.Create l) = create-means l.place l.tdr l.hkid
plans-mean (plan.KeyConfig l) = configure-means l.place l.tdr
plans-mean (plan.AddCx l) = add-means l.place l.tdr l.page
plans-mean (plan.Init l) = init-means l.place l.tdr
plans-mean (plan.Rd l) = read-means l.place l.tdr l.field
plans-mean (plan.FlushDone l) = flush-means l.place l.tdr
plans-mean (plan.FreeId l) = free-means l.place l.tdr
plans-mean (plan.Finalize l) = finalize-means l.place l.tdr
plans-mean (plan.VpCreate l) = vp_create-means l.place l.tdr l.page
plans-mean (plan.VpInit l) = vp_init-means l.place l.tdr l.vp l.value l.few_pages
plans-mean (plan.VpFlush l) = vp_flush-means l.place l.tdr l.vp l.few_pages
plans-mean (plan.SeptAdd l) = sept_add-means l.place l.tdr l.gpa l.level l.page l.machine
plans-mean (plan.SeptRd l) = sept_read-means l.place l.tdr l.gpa l.level l.machine
plans-mean (plan.PageAdd l) = page_add-means l.place l.given.tdr l.given.gpa l.given.page l.given.source l.machine
plans-mean (plan.PageAug l) = page_aug-means l.place l.tdr l.gpa l.page l.machine
plans-mean (plan.PageRemove l) = page_remove-means l.place l.tdr l.gpa l.machine
plans-mean (plan.PageRelocate l) = page_relocate-means l.place l.tdr l.gpa l.page l.machine
plans-mean (plan.RangeBlock l) = range_block-means l.place l.tdr l.gpa l.level l.machine
plans-mean (plan.RangeUnblock l) = range_unblock-means l.place l.tdr l.gpa l.level l.machine
plans-mean (plan.Track l) = track-means l.place l.tdr
plans-mean (plan.StreamCreate l) = stream_create-means l.place l.tdr l.page
plans-mean (plan.BlockW l) = block_write-means l.place l.tdr l.gpa l.machine
plans-mean (plan.UnblockW l) = unblock_write-means l.place l.tdr l.gpa l.machine
plans-mean (plan.Pause l) = pause-means l.place l.tdr
plans-mean (plan.Abort l) = abort-means l.place l.tdr
plans-mean (plan.Restore l) = restore-means l.place l.tdr l.gpa l.machine
plans-mean (plan.Immutable l) = immutable-means l.place l.tdr l.slot
plans-mean (plan.Token l) = token-means l.place l.tdr l.slot l.start
plans-mean (plan.StateVp l) = vp_state-means l.place l.tdr l.vp l.slot l.few_pages
plans-mean (plan.Commit l) = commit-means l.place l.tdr
plans-mean (plan.ImportEnd l) = import_end-means l.place l.tdr
plans-mean (plan.ImportAbort l) = import_abort-means l.place l.tdr l.slot
plans-mean (plan.Enter l) = entry-means l.place l.tdr l.vp l.most l.few_pages
plans-mean (plan.Exit l) = exit-means l.place l.tdr l.vp l.outcome
plans-mean (plan.Set l) = set-means l.place l.tdr l.vp l.register l.value l.few
plans-mean (plan.Sum l) = sum-means l.place l.tdr l.vp l.register l.other l.few l.other_few
plans-mean (plan.Rtmr l) = rtmr-means l.place l.tdr l.vp l.line l.index l.few
plans-mean (plan.Accept l) = accept-means l.place l.tdr l.vp l.gpa l.machine l.private
plans-mean (plan.Vmcall l) = vmcall-means l.place l.tdr l.vp l.register l.few
plans-mean (plan.SharedLoad l) = shared_load-means l.place l.tdr l.vp l.line l.register l.gpa l.few
plans-mean (plan.SharedStore l) = shared_store-means l.place l.tdr l.vp l.register l.gpa l.few
plans-mean (plan.PrivateLoad l) = accesses-mean l.place l.tdr l.vp l.line access.Read l.register l.gpa l.page l.few
plans-mean (plan.PrivateStore l) = accesses-mean l.place l.tdr l.vp l.line access.Write l.register l.gpa l.page l.few
plans-mean (plan.WalkLoad l) = walks-mean l.place l.tdr l.vp l.access l.gpa l.level l.page l.machine l.private l.low
